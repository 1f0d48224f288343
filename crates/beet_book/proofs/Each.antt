-- Dealing one curve more.
use Rattle.std.proofs.Common.{◌≡◌, ℕ, ◌+◌, ◌<◌, List, [], ◌∷◌, ◌++◌, length, Some, arith, inl, inr, sym, ◌∙◌, length-append}
use Rattle.std.proofs.Math.ListN.{set}
use Rattle.std.proofs.lemmas.Bool.{cases_lt}
use Rattle.std.proofs.lemmas.Option.{slice_get_within}
use Rattle.std.specs.List.{slice_get}
use Rattle.beet_field.specs.declared.trio.Trio.{Trio}
use Rattle.beet_words.specs.Tapes.{Tape}
use Rattle.beet_bids.specs.Curves.{Curve}
use Rattle.beet_book.specs.Dealing.{DealsBidder}
use Rattle.beet_book.proofs.Items.{get-set_other, get-set_same, get-append_left, get-append_last}

-- each curve that has points was dealt
abbrev pub EachDealt : List Curve → List Tape → List Tape → List (Trio (List ℕ)) → Type 0
EachDealt curves old new dealt =
    (i : ℕ) (curve : Curve) (before after : Tape) (points : Trio (List ℕ)) →
    slice_get curves i ≡ Some curve → slice_get old i ≡ Some before → slice_get new i ≡ Some after →
    slice_get dealt i ≡ Some points → DealsBidder curve before after points

pub each-more : (curves : List Curve) (old mid : List Tape) (dealt : List (Trio (List ℕ)))
    (i : ℕ) (curve : Curve) (before after : Tape) (points : Trio (List ℕ)) →
    EachDealt curves old mid dealt → length dealt ≡ i → i < length mid →
    slice_get curves i ≡ Some curve → slice_get old i ≡ Some before → DealsBidder curve before after points →
    EachDealt curves old (set mid i after) (dealt ++ points ∷ [])
each-more curves old mid dealt i curve before after points each count within c b deals j c' b' a' p' e f g h =
    let last : j < i + 1 = omega (arith, slice_get_within (dealt ++ points ∷ []) j p' h, length-append dealt (points ∷ [])) in
    elim (cases_lt j i) [
      | inl lt ↦
          each j c' b' a' p' e f
          (sym (get-set_other mid i j after (omega arith)) ∙ g)
          (sym (get-append_left dealt (points ∷ []) j (omega arith)) ∙ h)
      | inr ge ↦
          let here : j ≡ i = omega arith in
          let curve_is : c' ≡ curve = cc (rw here at e, c) in
          let before_is : b' ≡ before = cc (rw here at f, b) in
          let after_is : a' ≡ after = cc (rw here at g, get-set_same mid i after within) in
          let points_is : p' ≡ points = cc (rw (here, sym count) at h, get-append_last dealt points) in
          rw (curve_is, before_is, after_is, points_is) deals
    ]
