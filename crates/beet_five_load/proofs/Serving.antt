-- The words that are read of five servers are enough.
use Rattle.std.proofs.Common.{◌≡◌, ◌≤◌, ◌<◌, ℕ, zero, suc, ◌^◌, List, [], ◌∷◌, ◌-◌, ◌*◌, ◌∙◌, length, map, All, arith}
use Rattle.std.specs.Prelude.{slice_index, slice_index_or}
use Rattle.std.proofs.lemmas.List.{length-map}
use Rattle.std.proofs.lemmas.List.Elements.{All-map}
use Rattle.beet_words.specs.Words.{IsWord, accepted}
use Rattle.beet_bids.specs.Grids.{Grid}
use Rattle.beet_linear_sharing.proofs.Arithmetic.{bounds-among}
use Rattle.beet_plan.specs.FivePlan.{five_over, most_masks, most_secrets}
use Rattle.beet_five_dealing.specs.FiveWords.{AreWordLists}
use Rattle.beet_load.specs.Servers.{ServerWords}
use Rattle.beet_five_load.specs.FiveServers.{AreServing, CanServe, CanServeAll, ServerLists, lists_of}
use Rattle.beet_five_load.specs.FiveWants.{counts_of_five}

-- what holds of each list, and of the empty one, holds at each place
pub at-each-place : (P : List ℕ → Type 0) (lists : List (List ℕ)) → P [] → All P lists → (k : ℕ) → P (slice_index_or lists k [])
at-each-place P [] none all k = none
at-each-place P (list ∷ lists) none all zero = all 0 [] (omega arith)
at-each-place P (list ∷ lists) none all (suc k) = at-each-place P lists none (λ i d lt. all (suc i) d (omega (arith, lt))) k

-- each number of a list of words is a word, also behind its end
pub word-at : (list : List ℕ) → All IsWord list → (k : ℕ) → IsWord (slice_index list k)
word-at [] all k = omega arith
word-at (w ∷ ws) all zero = all 0 0 (omega arith)
word-at (w ∷ ws) all (suc k) = word-at ws (λ i d lt. all (suc i) d (omega (arith, lt))) k

-- lists of words
pub are-word-lists : (lists : List (List ℕ)) → All (All IsWord) lists → AreWordLists lists
are-word-lists lists all =
    at-each-place (λ list. (i : ℕ) → IsWord (slice_index list i)) lists (word-at [] (λ i d lt. absurd (omega (arith, lt))))
    (λ k d lt. word-at _ (all k d lt))

module _ (grid : Grid) (servers : List ServerWords) (five : length servers ≡ 5)
    (each : All (CanServe (counts_of_five grid)) servers) where
  masks-are : AreWordLists (map (λ (w : ServerWords). w.masks) servers)
  masks-are = are-word-lists _ (All-map (All IsWord) (λ (w : ServerWords). w.masks) servers (λ k d lt. (each k d lt).masks))

  coefficients-are : AreWordLists (map (λ (w : ServerWords). w.coefficients) servers)
  coefficients-are =
      are-word-lists _ (All-map (All IsWord) (λ (w : ServerWords). w.coefficients) servers (λ k d lt. (each k d lt).coefficients))

  -- they can run the auction over the grid
  pub serves : CanServeAll grid (lists_of servers)
  unfolding masks-are coefficients-are
  serves = record {
    masks = record { five = length-map servers (λ (w : ServerWords). w.masks) ∙ five; small = masks-are };
    coefficients = record { five = length-map servers (λ (w : ServerWords). w.coefficients) ∙ five; small = coefficients-are };
    dealing = λ j at.
        let all = All-map (λ (list : List ℕ). most_masks (five_over grid) ≤ length list) (λ (w : ServerWords). w.masks) servers
        (λ k d lt. (each k d lt).enough.masks) in
        let b = bounds-among j at in
        let long = length-map servers (λ (w : ServerWords). w.masks) in
        all (j - 1) [] (omega (arith, b.0, b.1, long, five));
    drawing = λ j at.
        let all = All-map (λ (list : List ℕ). 2 * most_secrets (five_over grid) ≤ length (accepted list))
        (λ (w : ServerWords). w.coefficients) servers (λ k d lt. (each k d lt).enough.coefficients) in
        let b = bounds-among j at in
        let long = length-map servers (λ (w : ServerWords). w.coefficients) in
        all (j - 1) [] (omega (arith, b.0, b.1, long, five));
    few_masks = at-each-place (λ list. length list < 2 ^ 32) (map (λ (w : ServerWords). w.masks) servers) (omega arith)
        (All-map (λ list. length list < 2 ^ 32) (λ (w : ServerWords). w.masks) servers (λ k d lt. (each k d lt).few_masks));
    few_coefficients =
        at-each-place (λ list. length list < 2 ^ 32) (map (λ (w : ServerWords). w.coefficients) servers) (omega arith)
        (All-map (λ list. length list < 2 ^ 32) (λ (w : ServerWords). w.coefficients) servers
        (λ k d lt. (each k d lt).few_coefficients));
  }

-- so can those that are read
pub serving-serves : (grid : Grid) (seeds : List (List ℕ)) (kept : ServerLists) (servers : List ServerWords) → length seeds ≡ 5 →
    AreServing (counts_of_five grid) seeds kept servers → CanServeAll grid kept
serving-serves grid seeds kept servers five a = let many = a.count in rw a.lists (serves grid servers (many ∙ five) a.each)
