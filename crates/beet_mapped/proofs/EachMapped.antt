-- The words of all parties, one after another.
use Rattle.std.proofs.Common.{◌≡◌, ◌<◌, ◌+◌, ℕ, zero, suc, inl, inr, List, [], ◌∷◌, ◌++◌, length, slice_get, Some, refl}
use Rattle.std.proofs.Common.{sym, ap, ◌∙◌, arith, length-append}
use Rattle.std.proofs.lemmas.Bool.{cases_lt}
use Rattle.std.proofs.lemmas.Option.{same_Some, slice_get_within}
use Rattle.beet_field.specs.declared.point.Point.{Point}
use Rattle.beet_gates.proofs.EachFacts.{get-append, get-append_right}
use Rattle.beet_mapped.specs.Dealers.{Party, Dealer, DealerMapped, DealersMapped, dealers_of}

abbrev pub dealer : Party → List ℕ → Dealer
dealer party words = record { party = party; words = words }

-- each party that has words in the second world
abbrev pub EachMapped : Point → List Party → List Party → List (List ℕ) → List (List ℕ) → Type 0
EachMapped s parties others words mapped =
    (k : ℕ) (one other : Party) (list moved : List ℕ) → slice_get parties k ≡ Some one → slice_get others k ≡ Some other →
    slice_get words k ≡ Some list → slice_get mapped k ≡ Some moved → DealerMapped s (dealer one list) (dealer other moved)

module _ (s : Point) (parties others : List Party) (words : List (List ℕ)) where
  pub each-mapped-more : (mapped : List (List ℕ)) (i : ℕ) (one other : Party) (list moved : List ℕ) →
      EachMapped s parties others words mapped →
      length mapped ≡ i → slice_get parties i ≡ Some one → slice_get others i ≡ Some other → slice_get words i ≡ Some list →
      DealerMapped s (dealer one list) (dealer other moved) → EachMapped s parties others words (mapped ++ moved ∷ [])
  each-mapped-more mapped i one other list moved each count a b c m k one' other' list' moved' e f g h =
      let last : k < i + 1 = omega (arith, slice_get_within (mapped ++ moved ∷ []) k moved' h, length-append mapped (moved ∷ [])) in
      elim (cases_lt k i) [
        | inl low ↦ each k one' other' list' moved' e f g (sym (get-append mapped (moved ∷ []) k (omega arith)) ∙ h)
        | inr high ↦
            let here : k ≡ i = omega arith in
            let end : k ≡ length mapped + 0 = omega arith in
            let is_one : one' ≡ one = same_Some one' one (sym e ∙ ap (slice_get parties) here ∙ a) in
            let is_other : other' ≡ other = same_Some other' other (sym f ∙ ap (slice_get others) here ∙ b) in
            let is_list : list' ≡ list = same_Some list' list (sym g ∙ ap (slice_get words) here ∙ c) in
            let is_moved : moved' ≡ moved =
            same_Some moved' moved (sym h ∙ ap (slice_get (mapped ++ moved ∷ [])) end ∙ get-append_right mapped (moved ∷ []) 0) in
            rw (is_one, is_other, is_list, is_moved) m
      ]

-- parties and their words, by place
dealer-at : (parties : List Party) (words : List (List ℕ)) (k : ℕ) (one : Dealer) → slice_get (dealers_of parties words) k ≡ Some one →
    (slice_get parties k ≡ Some one.party) × (slice_get words k ≡ Some one.words)
dealer-at [] words k one e = cc e
dealer-at (b ∷ bs) [] k one e = cc e
dealer-at (b ∷ bs) (w ∷ ws) zero one e =
    let is = same_Some (dealer b w) one e in
    (ap (λ (d : Dealer). Some d.party) is, ap (λ (d : Dealer). Some d.words) is)
dealer-at (b ∷ bs) (w ∷ ws) (suc k) one e = dealer-at bs ws k one e

length-dealers : (parties : List Party) (words : List (List ℕ)) → length words ≡ length parties →
    length (dealers_of parties words) ≡ length words
length-dealers [] [] e = refl
length-dealers [] (w ∷ ws) e = absurd (omega arith)
length-dealers (b ∷ bs) [] e = refl
length-dealers (b ∷ bs) (w ∷ ws) e = ap suc (length-dealers bs ws (let l : length ws ≡ length bs = omega arith in l))

pub parties-mapped : (s : Point) (parties others : List Party) (words mapped : List (List ℕ)) → length words ≡ length parties →
    length others ≡ length parties → length mapped ≡ length words → EachMapped s parties others words mapped →
    DealersMapped s (dealers_of parties words) (dealers_of others mapped)
parties-mapped s parties others words mapped a b c each = record {
  count = length-dealers others mapped (c ∙ a ∙ sym b) ∙ c ∙ sym (length-dealers parties words a);
  each_one = λ k one other e f.
      let x = dealer-at parties words k one e in
      let y = dealer-at others mapped k other f in
      each k one.party other.party one.words other.words x.0 y.0 x.1 y.1;
}
