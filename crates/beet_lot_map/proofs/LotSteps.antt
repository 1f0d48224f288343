-- The lots of two sessions, one after another.
use Rattle.std.proofs.Common.{◌≡◌, ◌<◌, ◌≤◌, ◌+◌, ◌-◌, ℕ, suc, Bool, true, false, nat_lt, List, [], ◌∷◌, ◌++◌, length, get_or, Some}
use Rattle.std.proofs.Common.{inr, refl, sym, ap, ◌∙◌, subst, arith, slice_get}
use Rattle.std.proofs.lemmas.Grind.{common_steps}
use Rattle.std.proofs.lemmas.List.{get_or_append_left, get_or-append_right}
use Rattle.std.proofs.lemmas.Option.{get_or_from_slice_get, same_Some, slice_get-get_or, slice_get_within}
use Rattle.beet_field.specs.declared.point.Point.{Point}
use Rattle.beet_words.specs.Bundles.{Words}
use Rattle.beet_bids.specs.Books.{Book}
use Rattle.beet_two_books.specs.Agreement.{Agree}
use Rattle.beet_auction_map.specs.ViewsWith.{transcript_with}
use Rattle.beet_auction_map.specs.Enough.{AreEnough}
use Rattle.beet_lot_map.specs.LotMaps.{AgreeBefore, AreEnoughEach, LotMapped, MappedBefore, RefusesAt, RefusesLot}
use Rattle.beet_lot_map.specs.LotMaps.{SessionMapped, session_transcripts}
use Rattle.beet_two_books.specs.declared.agreeing.MapFault.TheVariants.{OutOfMemory as MapOutOfMemory}
use Rattle.beet_lot_map.specs.declared.mapping.SessionFault.{SessionFault}
use Rattle.beet_lot_map.specs.declared.mapping.SessionFault.TheVariants.{OutOfMemory}

below : (k n : ℕ) → nat_lt k n ≡ true → k < n
below k n h = grind (arith, common_steps)

not-below : (k n : ℕ) → nat_lt k n ≡ false → n ≤ k
not-below k n h = grind (arith, common_steps)

-- what stands before the end of a list stood there before one more was put behind it
before-end : {X : Type 0} (xs : List X) (x y : X) (k : ℕ) → k < length xs → slice_get (xs ++ x ∷ []) k ≡ Some y → slice_get xs k ≡ Some y
before-end xs x y k lt e =
    slice_get-get_or xs k y lt
    ∙ ap Some (sym (get_or_append_left xs (x ∷ []) y k lt) ∙ get_or_from_slice_get (xs ++ x ∷ []) k y y e)

at-end : {X : Type 0} (xs : List X) (x y : X) (k : ℕ) → length xs ≡ k → slice_get (xs ++ x ∷ []) k ≡ Some y → x ≡ y
at-end xs x y k many e =
    sym (get_or-append_right xs (x ∷ []) k k y many (omega arith) ∙ first (k - k) (omega arith))
    ∙ get_or_from_slice_get (xs ++ x ∷ []) k y y e where
      first : (n : ℕ) → n ≡ 0 → get_or (x ∷ []) n y ≡ x
      first n z = rw z refl

-- the words of the lots before a place are enough
abbrev pub AreEnoughBefore : List Book → List Words → ℕ → Type 0
AreEnoughBefore firsts words n =
    (k : ℕ) (book : Book) (held : Words) → k < n → slice_get firsts k ≡ Some book → slice_get words k ≡ Some held →
    AreEnough book held

-- the words of one lot more are enough
pub enough-more : (firsts : List Book) (words : List Words) (n : ℕ) (first : Book) (held : Words) → slice_get firsts n ≡ Some first →
    slice_get words n ≡ Some held → AreEnoughBefore firsts words n → AreEnough first held → AreEnoughBefore firsts words (n + 1)
enough-more firsts words n first held is_first is_held before here k b w lt eb ew = go (nat_lt k n) refl where
  go : (c : Bool) → nat_lt k n ≡ c → AreEnough b w
  go true is = before k b w (below k n is) eb ew
  go false is =
      let ge = not-below k n is in
      let same : n ≡ k = omega arith in
      let eb0 = same_Some first b (sym is_first ∙ ap (slice_get firsts) same ∙ eb) in
      let ew0 = same_Some held w (sym is_held ∙ ap (slice_get words) same ∙ ew) in
      subst (λ (x : Book). AreEnough x w) eb0 (subst (λ (x : Words). AreEnough first x) ew0 here)

-- those of all lots are
pub enough-all : (firsts : List Book) (words : List Words) (n : ℕ) → length firsts ≤ n → AreEnoughBefore firsts words n →
    AreEnoughEach firsts words
enough-all firsts words n all before k b w eb ew =
    let within = slice_get_within firsts k b eb in
    before k b w (omega (arith, within, all)) eb ew

module _ (s : Point) (firsts : List Book) (words : List Words) (seconds : List Book) where
  -- no lot is mapped yet
  pub mapped-none : (mapped : List Words) → MappedBefore s firsts words seconds mapped 0
  mapped-none mapped k first held second other lt = absurd (omega (arith, lt))

  module _ (mapped : List Words) (n : ℕ) (many : length mapped ≡ n) (first : Book) (held : Words) (second : Book)
      (is_first : slice_get firsts n ≡ Some first)
      (is_held : slice_get words n ≡ Some held) (is_second : slice_get seconds n ≡ Some second)
      (before : MappedBefore s firsts words seconds mapped n) where
    -- one lot more is mapped
    pub mapped-more : (other : Words) → LotMapped s first held second other →
        MappedBefore s firsts words seconds (mapped ++ other ∷ []) (n + 1)
    mapped-more other here k b w b' w' lt eb ew eb' ew' = go (nat_lt k n) refl where
      go : (c : Bool) → nat_lt k n ≡ c → LotMapped s b w b' w'
      go true is = let lt' = below k n is in before k b w b' w' lt' eb ew eb'
          (before-end mapped other w' k (omega (arith, lt', many)) ew')
      go false is =
          let ge = not-below k n is in
          let same : n ≡ k = omega arith in
          let eb0 = same_Some first b (sym is_first ∙ ap (slice_get firsts) same ∙ eb) in
          let ew0 = same_Some held w (sym is_held ∙ ap (slice_get words) same ∙ ew) in
          let eb1 = same_Some second b' (sym is_second ∙ ap (slice_get seconds) same ∙ eb') in
          let ew1 = at-end mapped other w' k (many ∙ same) ew' in
          subst (λ (x : Book). LotMapped s x w b' w') eb0 (subst (λ (x : Words). LotMapped s first x b' w') ew0
          (subst (λ (x : Book). LotMapped s first held x w') eb1 (subst (λ (x : Words). LotMapped s first held second x) ew1 here)))

    -- the lots before this one agree
    pub agree-before : length words ≡ length firsts → AgreeBefore s firsts seconds n
    agree-before lists k b b' lt eb eb' =
        let within = slice_get_within firsts k b eb in
        (before k b (get_or words k held) b' (get_or mapped k held) lt eb (slice_get-get_or words k held (omega (arith, within, lists)))
        eb'
        (slice_get-get_or mapped k held (omega (arith, lt, many)))).agree

    -- this lot is refused
    pub refused-here : length words ≡ length firsts → (fault : SessionFault) → RefusesLot s (n + 1) first second fault →
        RefusesAt s firsts seconds fault n
    refused-here lists fault here = record {
      first = first;
      second = second;
      is_first = is_first;
      is_second = is_second;
      before = agree-before lists;
      here = here;
    }

    -- or memory ran out after it
    pub no-memory-here : length words ≡ length firsts → Agree s first second → RefusesAt s firsts seconds OutOfMemory n
    no-memory-here lists agree = refused-here lists OutOfMemory (inr (agree.grids, (MapOutOfMemory, refl, agree)))

-- a server sees the same of both sessions
pub views-same : (s : Point) (firsts : List Book) (words : List Words) (seconds : List Book) (mapped : List Words) →
    length words ≡ length firsts →
    SessionMapped s firsts words seconds mapped → session_transcripts s seconds mapped ≡ session_transcripts s firsts words
views-same s [] words [] mapped many m = refl
views-same s [] words (x ∷ seconds) mapped many m = absurd (let lots = m.lots in omega (arith, lots))
views-same s (b ∷ firsts) [] seconds mapped many m = absurd (omega (arith, many))
views-same s (b ∷ firsts) (w ∷ words) [] mapped many m = absurd (let lots = m.lots in omega (arith, lots))
views-same s (b ∷ firsts) (w ∷ words) (x ∷ seconds) [] many m = absurd (let count = m.count in omega (arith, count))
views-same s (b ∷ firsts) (w ∷ words) (x ∷ seconds) (y ∷ mapped) many m =
    let lots = m.lots in
    let count = m.count in
    let head = (m.each 0 b w x y (omega arith) refl refl refl refl).bytes in
    let rest = views-same s firsts words seconds mapped (omega (arith, many)) (record {
      lots = omega (arith, lots);
      count = omega (arith, count);
      each = λ k first held second other lt e f g h. m.each (suc k) first held second other (omega (arith, lt)) e f g h;
    }) in
    ap (λ t. t ∷ session_transcripts s seconds mapped) head ∙ ap (λ ts. transcript_with b w s ∷ ts) rest
