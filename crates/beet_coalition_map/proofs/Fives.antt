-- The lists of five servers.
use Rattle.std.proofs.Common.{◌≡◌, ◌-◌, inl, inr, ℕ, zero, suc, List, [], ◌∷◌, length, map, slice_index, slice_index_or, refl}
use Rattle.std.proofs.Common.{sym, ◌∙◌, arith, All, ap, subst}
use Rattle.std.proofs.lemmas.List.{length-map}
use Rattle.std.proofs.lemmas.List.Elements.{All-head, All-tail}
use Rattle.beet_words.specs.Words.{IsWord, accepted, ones_in}
use Rattle.beet_gates.specs.declared.Batch.{Batch}
use Rattle.beet_weights.specs.Quadratics.{of_five}
use Rattle.beet_linear_sharing.specs.Schemes.{five_servers}
use Rattle.beet_linear_sharing.specs.Sharings.{IsAmong}
use Rattle.beet_coalition.specs.Coalitions.{GateMapped}
use Rattle.beet_coalition.specs.Lists.{at_server}
use Rattle.beet_coalition.specs.Premise.{begin_in}
use Rattle.beet_coalition.specs.Watchers.{two_watch}
use Rattle.beet_coalition_map.specs.Begins.{AreMapped, Begins}
use Rattle.beet_coalition_map.specs.Steps.{FitBack, NumbersMapped}
use Rattle.beet_coalition.proofs.SumFacts.{five-lists}

-- what is of a server, of a list of five
pub of-server : {A : Type 0} (f : ℕ → A) (d : A) (j : ℕ) → IsAmong five_servers.servers j → slice_index_or (of_five f) (j - 1) d ≡ f j
of-server f d j (inl e) = rw e refl
of-server f d j (inr (inl e)) = rw e refl
of-server f d j (inr (inr (inl e))) = rw e refl
of-server f d j (inr (inr (inr (inl e)))) = rw e refl
of-server f d j (inr (inr (inr (inr (inl e))))) = rw e refl
of-server f d j (inr (inr (inr (inr (inr e))))) = absurd e

-- the item of a mapped list, where the rule gives none for none
pub map-item : {B : Type 0} (f : List ℕ → B) (xs : List (List ℕ)) (k : ℕ) → slice_index_or (map f xs) k (f []) ≡ f (slice_index_or xs k [])
map-item f [] k = refl
map-item f (x ∷ xs) zero = refl
map-item f (x ∷ xs) (suc k) = map-item f xs k

-- a rule for the list of each server maps the list of lists
pub five-mapped : (f : List ℕ → List ℕ) (xs : List (List ℕ)) → f [] ≡ [] → length xs ≡ 5 → of_five (λ j. f (at_server xs j)) ≡ map f xs
five-mapped f xs none five =
    five-lists (map f xs) (of_five (λ j. f (at_server xs j))) (length-map xs f ∙ five) refl
    (λ j at. of-server (λ i. f (at_server xs i)) [] j at ∙ sym (map-item f xs (j - 1)) ∙ (λ i. slice_index_or (map f xs) (j - 1) (none i)))

-- the numbers that each of five servers draws
pub five-drawn : (xs : List (List ℕ)) → length xs ≡ 5 → (j : ℕ) →
    at_server (of_five (λ i. accepted (at_server xs i))) j ≡ accepted (at_server xs j)
five-drawn xs five j =
    (λ i. at_server (five-mapped accepted xs refl five i) j) ∙ map-item accepted xs (j - 1)

-- words of lists are words
words-item : (ws : List ℕ) (k : ℕ) → All IsWord ws → IsWord (slice_index ws k)
words-item [] k all = omega arith
words-item (w ∷ ws) zero all = All-head IsWord w ws all
words-item (w ∷ ws) (suc k) all = words-item ws k (All-tail IsWord w ws all)

pub words-there : (lists : List (List ℕ)) (j k : ℕ) → All (All IsWord) lists → IsWord (slice_index (slice_index_or lists j []) k)
words-there [] j k all = omega arith
words-there (ws ∷ lists) zero k all = words-item ws k (All-head (All IsWord) ws lists all)
words-there (ws ∷ lists) (suc j) k all = words-there lists j k (All-tail (All IsWord) ws lists all)

pub fit-back : (words numbers : List (List ℕ)) →
    ((j : ℕ) → IsAmong five_servers.servers j → length (at_server numbers j) ≡ length (accepted (at_server words j))) →
    FitBack words numbers
fit-back words numbers fit = record {
  one = fit 1 (inl refl);
  two = fit 2 (inr (inl refl));
  three = fit 3 (inr (inr (inl refl)));
  four = fit 4 (inr (inr (inr (inl refl))));
  five = fit 5 (inr (inr (inr (inr (inl refl)))));
}

-- words put back, with numbers that are mapped, are mapped
pub words-mapped : (a b : ℕ) (next : ℕ → List ℕ → Batch) (first second : Begins) (words drawn numbers back : List (List ℕ)) →
    length words ≡ 5 → drawn ≡ of_five (λ j. accepted (at_server words j)) → map accepted back ≡ numbers →
    map ones_in back ≡ of_five (λ j. ones_in (at_server words j)) → NumbersMapped a b next first second drawn numbers →
    AreMapped a b next first second words back
words-mapped a b next first second words drawn numbers back five is put places mapped rounds w w' two =
    let before : at_server drawn ≡ (λ j. accepted (at_server words j)) =
    λ i j. (ap (λ l. at_server l j) is ∙ five-drawn words five j) i in
    let after : at_server numbers ≡ (λ j. accepted (at_server back j)) =
    λ i j. (ap (λ l. at_server l j) (sym put) ∙ map-item accepted back (j - 1)) i in
    record {
      places = λ j at.
          sym (map-item ones_in back (j - 1)) ∙ ap (λ l. slice_index_or l (j - 1) []) places
          ∙ of-server (λ i. ones_in (at_server words i)) [] j at;
      numbers = subst (λ d. GateMapped five_servers (two_watch a b) rounds (begin_in next w d)
          (begin_in next w' (λ j. accepted (at_server back j)))) before
          (subst (λ e. GateMapped five_servers (two_watch a b) rounds (begin_in next w (at_server drawn)) (begin_in next w' e)) after
          (mapped rounds w w' two));
    }
