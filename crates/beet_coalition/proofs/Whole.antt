-- All that is said of mapped numbers.
use Rattle.std.proofs.Common.{◌≡◌, ◌≤◌, ℕ, List, ◌∙◌, arith}
use Rattle.beet_gates.specs.Clear.{EndsAfter, is_end}
use Rattle.beet_gates.specs.declared.Batch.{Batch}
use Rattle.beet_linear_sharing.specs.Sharings.{Sharing}
use Rattle.beet_linear_sharing.specs.Runs.{HasRounds, Setup, coming, deals_among, shared_at}
use Rattle.beet_coalition.specs.Coalitions.{Coalition, GateMapped, LooksAlike}
use Rattle.beet_coalition.specs.Premise.{MayMap, Secrets, begin_in, clear_of}
use Rattle.beet_coalition.specs.Pairs.{AreElements, GoTogether, HasNumbers}
use Rattle.beet_linear_sharing.proofs.Laws.{SharingLaws}
use Rattle.beet_coalition.proofs.Laws.{CoalitionLaws}
use Rattle.beet_linear_sharing.proofs.AtOne.{at-one}
use Rattle.beet_coalition.proofs.Alike.{Alike, alike_at, messages_at, same_batch, standing_alike_at}
use Rattle.beet_coalition.proofs.Unique.{only_one}
use Rattle.beet_coalition.proofs.Symmetry.{map_back, may_back, only_one_back}
use Rattle.beet_coalition.proofs.Reaching.{reach}

module _ (q : Sharing) (c : Coalition) (laws : SharingLaws q) (watch : CoalitionLaws q c) (next : ℕ → List ℕ → Batch) (rounds : ℕ) where
  module _ (w w' : Secrets) (may : MayMap q c next rounds w w') (ends : EndsAfter next (deals_among q w.masks) w.values rounds) where
    -- the end of the first run
    pub has_rounds : (d : ℕ → List ℕ) → HasRounds q (begin_in next w d) rounds
    has_rounds d =
        let opened : (t : ℕ) → (shared_at q (begin_in next w d) t).opened ≡ (clear_of q next w t).opened =
        λ t. (at-one q laws (begin_in next w d) w.values may.shared t).opened in
        record {
          ends = (λ i. is_end (next rounds (opened rounds i)).act) ∙ ends.0;
          goes = λ t lt. (λ i. is_end (next t (opened t i)).act) ∙ ends.1 t lt;
        }

    looks : (d e : ℕ → List ℕ) → GateMapped q c rounds (begin_in next w d) (begin_in next w' e) →
        LooksAlike q c rounds (begin_in next w d) (begin_in next w' e)
    looks d e m =
        let first : Setup = begin_in next w d in
        let second : Setup = begin_in next w' e in
        let alike : (t : ℕ) → t ≤ rounds → Alike q c (shared_at q first t) (shared_at q second t) =
        λ t le. alike_at q c laws watch next w w' d e rounds may m t le in
        let same : (t : ℕ) → t ≤ rounds → coming q second t ≡ coming q first t =
        λ t le. same_batch q c laws watch next w w' d e rounds may m t (alike t le) in
        record {
          first_ends = has_rounds d;
          second_ends = record {
            ends = (λ i. is_end (same rounds (omega arith) i).act) ∙ (has_rounds d).ends;
            goes = λ t lt. (λ i. is_end (same t (omega arith) i).act) ∙ (has_rounds d).goes t lt;
          };
          points = λ t i le at is. (alike t le).mine i at is;
          standing = λ t i le at is. (standing_alike_at q c laws watch next w w' d e rounds may m t le).mine i at is;
          opened = λ t le. (alike t le).opened;
          messages = λ t from i lt at there is. messages_at q c laws watch next w w' d e rounds may m t from i lt at there is;
        }

    pub together : (d e : ℕ → List ℕ) → AreElements q d → GateMapped q c rounds (begin_in next w d) (begin_in next w' e) →
        GoTogether q c next rounds w w' d e
    together d e few m = record {
      mapped = m;
      looks = looks d e m;
      only = λ other m'. only_one q c laws watch next rounds w w' may d e other m m';
      back = λ other few' m'. only_one_back q c laws watch next rounds w w' may d other e few few' m m';
    }

    pub image : (d : ℕ → List ℕ) → AreElements q d → HasNumbers q rounds (begin_in next w d) →
        (e : ℕ → List ℕ) × AreElements q e × GoTogether q c next rounds w w' d e
    image d few fits =
        let r = reach q c laws watch next rounds w w' may d fits few rounds (omega arith) in
        (r.reached, r.are_elements, together d r.reached few r.mapped)

    -- the end of the run on the values of the second world
    pub ends_there : EndsAfter next (deals_among q w'.masks) w'.values rounds
    ends_there = (
      (λ i. is_end (next rounds (may.opens rounds (omega arith) i)).act) ∙ ends.0,
      λ t lt. (λ i. is_end (next t (may.opens t (omega arith) i)).act) ∙ ends.1 t lt,
    )

  pub source : (w w' : Secrets) (may : MayMap q c next rounds w w') → EndsAfter next (deals_among q w.masks) w.values rounds →
      (e : ℕ → List ℕ) → AreElements q e → HasNumbers q rounds (begin_in next w' e) →
      (d : ℕ → List ℕ) × AreElements q d × GoTogether q c next rounds w w' d e
  source w w' may ends e few fits =
      let back : MayMap q c next rounds w' w = may_back q c laws watch next rounds w w' may in
      let found = image w' w back (ends_there w w' may ends) e few fits in (
        found.0,
        found.1,
        together w w' may ends found.0 e found.1 (map_back q c laws watch next rounds w' w back e found.0 few found.2.mapped),
      )
