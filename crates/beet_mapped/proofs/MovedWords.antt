-- The loop that moves the words of a party.
use Rattle.std.proofs.Common.{◌≡◌, ◌≢◌, ◌≤◌, ◌<◌, ◌+◌, ℕ, inl, inr, true, false, List, [], ◌∷◌, ◌++◌, take, length}
use Rattle.std.proofs.Common.{slice_index, get_or, refl, sym, ap, ◌∙◌, arith, length-append, append-nil, eq-eqb, ne_eqb}
use Rattle.std.specs.Prelude.{if◌then◌else◌, ◌==◌, nat_lt}
use Rattle.std.proofs.lemmas.Bool.{cases_eq, cases_lt}
use Rattle.std.proofs.lemmas.Bool.Decides.{nat_tests}
use Rattle.std.proofs.lemmas.List.{get_or-append-add, get_or_past, map-append, take_more, take_all}
use Rattle.beet_field.specs.declared.point.Point.{Point}
use Rattle.beet_words.specs.Words.{accepted, ones, ones_in}
use Rattle.beet_words.proofs.WordLists.{accepted-append}
use Rattle.beet_map.specs.Mapped.{moved_of}
use Rattle.beet_mapped.specs.Dealers.{SlopesMoved, slope_mapped}
use Rattle.beet_mapped.proofs.WordPlaces.{accepted-length, accepted-some}
use Rattle.beet_gates.proofs.Segments.{index-append}

accepted-none : (w : ℕ) → w ≡ ones → accepted (w ∷ []) ≡ []
accepted-none w e = let t : (w == ones) ≡ true = eq-eqb w ones e in rw t refl

accepted-one : (w : ℕ) → w ≢ ones → accepted (w ∷ []) ≡ w ∷ []
accepted-one w e = let t : (w == ones) ≡ false = ne_eqb w ones e in rw t refl

last-item : (xs ys : List ℕ) (x : ℕ) → slice_index (xs ++ x ∷ ys) (length xs) ≡ x
last-item xs ys x = let e : length xs ≡ length xs + 0 = omega arith in ap (slice_index (xs ++ x ∷ ys)) e ∙ get_or-append-add xs (x ∷ ys) 0 0

module _ (s : Point) (one other : List ℕ) where
  abbrev wanted : ℕ
  wanted = length one

  mapped-stays : (n w : ℕ) → w ≡ ones → slope_mapped s one other n w ≡ w
  mapped-stays n w e = let t : (w == ones) ≡ true = eq-eqb w ones e in rw t refl

  mapped-moves : (n w : ℕ) → w ≢ ones → n < wanted → slope_mapped s one other n w ≡ moved_of s w (slice_index one n) (slice_index other n)
  mapped-moves n w e h =
      let t : (w == ones) ≡ false = ne_eqb w ones e in
      let l : nat_lt n wanted ≡ true = grind (arith, nat_tests) in
      rw (t, l) refl

  mapped-rests : (n w : ℕ) → wanted ≤ n → slope_mapped s one other n w ≡ w
  mapped-rests n w h = elim (cases_eq w ones) [
    | inl e ↦ mapped-stays n w e
    | inr e ↦
        let t : (w == ones) ≡ false = ne_eqb w ones e in
        let l : nat_lt n wanted ≡ false = grind (arith, nat_tests) in
        rw (t, l) refl
  ]

  mapped-ones : (n w : ℕ) → w ≢ ones → slope_mapped s one other n w ≢ ones
  mapped-ones n w e = elim (cases_lt n wanted) [
    | inl h ↦ λ f. let m = mapped-moves n w e h in absurd (omega arith)
    | inr h ↦ λ f. e (sym (mapped-rests n w h) ∙ f)
  ]

  module _ (words : List ℕ) where
    pub record MovedTo (out : List ℕ) (i drawn : ℕ) : Type 0 where
      pub places : ones_in out ≡ ones_in (take i words)
      pub count : length (accepted (take i words)) ≡ drawn
      pub items : (n : ℕ) → n < drawn → slice_index (accepted out) n ≡ slope_mapped s one other n (slice_index (accepted (take i words)) n)

    ones-more : (out : List ℕ) (i word x : ℕ) → take (i + 1) words ≡ take i words ++ word ∷ [] →
        ones_in out ≡ ones_in (take i words) → (x == ones) ≡ (word == ones) →
        ones_in (out ++ x ∷ []) ≡ ones_in (take (i + 1) words)
    ones-more out i word x front e f =
        map-append (λ w. w == ones) out (x ∷ []) ∙ (λ j. e j ++ f j ∷ [])
        ∙ sym (map-append (λ w. w == ones) (take i words) (word ∷ [])) ∙ ap ones_in (sym front)

    pub moved-more : (out after : List ℕ) (i drawn drawn' word x : ℕ) → i < length words → MovedTo out i drawn →
        word ≡ get_or words i word →
        x ≡ slope_mapped s one other drawn word → after ≡ out ++ x ∷ [] → drawn' ≡ drawn + (if word == ones then 0 else 1) →
        MovedTo after (i + 1) drawn'
    moved-more out after i drawn drawn' word x lt g ws xs added ds =
        let front : take (i + 1) words ≡ take i words ++ word ∷ [] = take_more words i word lt ∙ (λ j. take i words ++ sym ws j ∷ []) in
        let before = accepted (take i words) in
        let split : accepted (take (i + 1) words) ≡ before ++ accepted (word ∷ []) =
        ap accepted front ∙ accepted-append (take i words) (word ∷ []) in
        let long : length (accepted out) ≡ length before = accepted-length out (take i words) g.places in
        elim (cases_eq word ones) [
          | inl all ↦
              let t : (word == ones) ≡ true = eq-eqb word ones all in
              let d : drawn' ≡ drawn = omega (arith, ds ∙ ap (λ b. drawn + (if b then 0 else 1)) t) in
              let stays : x ≡ word = xs ∙ mapped-stays drawn word all in
              let same : accepted (take (i + 1) words) ≡ before =
              split ∙ ap (λ l. before ++ l) (accepted-none word all) ∙ append-nil before in
              let kept : accepted (out ++ x ∷ []) ≡ accepted out =
              accepted-append out (x ∷ []) ∙ ap (λ l. accepted out ++ l) (accepted-none x (stays ∙ all)) ∙ append-nil (accepted out) in
              rw (added, d) (record {
                places = ones-more out i word x front g.places (ap (λ w. w == ones) stays);
                count = ap length same ∙ g.count;
                items = λ n h. ap (λ l. slice_index l n) kept ∙ g.items n h
                    ∙ ap (λ l. slope_mapped s one other n (slice_index l n)) (sym same);
              })
          | inr some ↦
              let t : (word == ones) ≡ false = ne_eqb word ones some in
              let d : drawn' ≡ drawn + 1 = ds ∙ ap (λ b. drawn + (if b then 0 else 1)) t in
              let f : (x == ones) ≡ false = ne_eqb x ones (λ e. mapped-ones drawn word some (sym xs ∙ e)) in
              let more : accepted (take (i + 1) words) ≡ before ++ word ∷ [] = split ∙ ap (λ l. before ++ l) (accepted-one word some) in
              let kept : accepted (out ++ x ∷ []) ≡ accepted out ++ x ∷ [] =
              accepted-append out (x ∷ []) ∙ ap (λ l. accepted out ++ l) (accepted-one x (λ e. mapped-ones drawn word some (sym xs ∙ e))) in
              rw (added, d) (record {
                places = ones-more out i word x front g.places (f ∙ sym t);
                count = ap length more ∙ length-append before (word ∷ []) ∙ ap (λ n. n + 1) g.count;
                items = λ n h. elim (cases_lt n drawn) [
                  | inl low ↦
                      ap (λ l. slice_index l n) kept ∙ index-append (accepted out) (x ∷ []) n (omega (arith, long, g.count)) ∙ g.items n low
                      ∙ ap (slope_mapped s one other n) (sym
                      (ap (λ l. slice_index l n) more ∙ index-append before (word ∷ []) n (omega (arith, g.count))))
                  | inr high ↦
                      let e : n ≡ length (accepted out) = omega (arith, long, g.count) in
                      let e' : n ≡ length before = omega (arith, g.count) in
                      let e'' : n ≡ drawn = omega arith in
                      ap (λ l. slice_index l n) kept ∙ ap (slice_index (accepted out ++ x ∷ [])) e ∙ last-item (accepted out) [] x ∙ xs
                      ∙ ap (λ k. slope_mapped s one other k word) (sym e'')
                      ∙ ap (slope_mapped s one other n) (sym (ap (λ l. slice_index l n) more
                      ∙ ap (slice_index (before ++ word ∷ [])) e' ∙ last-item before [] word))
                ];
              })
        ]

    pub moved-all : (out : List ℕ) (i drawn : ℕ) → i ≡ length words → wanted ≤ length (accepted words) →
        MovedTo out i drawn → SlopesMoved s one other words out
    moved-all out i drawn end enough g =
        let whole : take i words ≡ words = ap (λ n. take n words) end ∙ take_all (length words) words (omega arith) in
        let long : length (accepted out) ≡ length (accepted words) =
        accepted-length out (take i words) g.places ∙ ap (λ l. length (accepted l)) whole in
        let count : length (accepted words) ≡ drawn = ap (λ l. length (accepted l)) (sym whole) ∙ g.count in
        record {
          places = g.places ∙ ap ones_in whole;
          moves = λ n h.
              let here : slice_index (accepted out) n ≡ slope_mapped s one other n (slice_index (accepted words) n) =
              g.items n (omega (arith, count)) ∙ ap (λ l. slope_mapped s one other n (slice_index (accepted l) n)) whole in
              here ∙ mapped-moves n (slice_index (accepted words) n) (accepted-some words n (omega arith)) h;
          rest = λ n h. elim (cases_lt n drawn) [
            | inl low ↦
                g.items n low ∙ ap (λ l. slope_mapped s one other n (slice_index (accepted l) n)) whole
                ∙ mapped-rests n (slice_index (accepted words) n) h
            | inr past ↦ get_or_past (accepted out) n 0 (omega arith) ∙ sym (get_or_past (accepted words) n 0 (omega arith))
          ];
        }
