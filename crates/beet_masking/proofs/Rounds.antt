-- How many rounds a run of comparisons has, mask by mask.
use Rattle.std.proofs.Common.{◌≡◌, ◌≢◌, ℕ, suc, ◌+◌, ◌-◌, ◌*◌, ◌<◌, inl, inr, true, false, refl, sym, ap, ◌∙◌, arith}
use Rattle.std.proofs.Common.{eq-eqb, ne_eqb, mul-add, mul-suc}
use Rattle.std.specs.Prelude.{◌==◌}
use Rattle.std.proofs.lemmas.Bool.{cases_Bool}
use Rattle.beet_field.specs.Field.{p}
use Rattle.beet_masking.specs.Accepting.{masked_rounds}
use Rattle.beet_masking.specs.Blocks.{Blocks}
use Rattle.beet_masking.specs.Masks.{is_spent, dealt_until_spent}
use Rattle.beet_masking.proofs.Counts.{spent_from, dealt_until_accepted, dealt_until_rejected, spent-start, dealt-spent}
use Rattle.beet_masking.proofs.Counts.{dealt-three, dealt-found, spent-last, spent-more, spent-kept, spent-none}

-- the number of rounds, where it is spent and where it is not
pub record Rounds (g : Blocks) (masks : ℕ → ℕ) (i rej c opening rounds : ℕ) : Type 0 where
  pub spent : spent_from masks i rej c ≡ true →
      rounds + g.compare_rounds * (3 - rej) ≡ g.mask_rounds * dealt_until_rejected masks i (3 - rej) (c + 2 - rej)
      + g.compare_rounds * dealt_until_rejected masks i (3 - rej) (c + 2 - rej)
  pub found : spent_from masks i rej c ≡ false →
      rounds ≡ g.mask_rounds * dealt_until_accepted masks i c (c + 2 - rej) + g.compare_rounds * c + opening

-- what one mask adds to the two counts
module _ (masks : ℕ → ℕ) (i c n : ℕ) where
  dealt_for-rejected : masks i ≡ p → dealt_until_accepted masks i (suc c) (suc n) ≡ 1 + dealt_until_accepted masks (i + 1) (suc c) n
  unfolding dealt_until_accepted
  dealt_for-rejected e = let t : (masks i == p) ≡ true = eq-eqb (masks i) p e in rw t refl

  dealt_for-accepted : masks i ≢ p → dealt_until_accepted masks i (suc c) (suc n) ≡ 1 + dealt_until_accepted masks (i + 1) c n
  unfolding dealt_until_accepted
  dealt_for-accepted e = let t : (masks i == p) ≡ false = ne_eqb (masks i) p e in rw t refl

  dealt_until-rejected : masks i ≡ p → dealt_until_rejected masks i (suc c) (suc n) ≡ 1 + dealt_until_rejected masks (i + 1) c n
  unfolding dealt_until_rejected
  dealt_until-rejected e = let t : (masks i == p) ≡ true = eq-eqb (masks i) p e in rw t refl

  dealt_until-accepted : masks i ≢ p → dealt_until_rejected masks i (suc c) (suc n) ≡ 1 + dealt_until_rejected masks (i + 1) (suc c) n
  unfolding dealt_until_rejected
  dealt_until-accepted e = let t : (masks i == p) ≡ false = ne_eqb (masks i) p e in rw t refl

dealt_for-none : (masks : ℕ → ℕ) (i n : ℕ) → dealt_until_accepted masks i 0 n ≡ 0
unfolding dealt_until_accepted
dealt_for-none masks i n = refl

dealt_until-none : (masks : ℕ → ℕ) (i n : ℕ) → dealt_until_rejected masks i 0 n ≡ 0
unfolding dealt_until_rejected
dealt_until-none masks i n = refl

-- a rejected mask that is not the last, and an accepted one
pub rounds-none : (g : Blocks) (masks : ℕ → ℕ) (i rej opening : ℕ) → rej < 3 → Rounds g masks i rej 0 opening opening
rounds-none g masks i rej opening h = record {
  spent = λ e. cc (e, spent-none masks i rej h);
  found = λ e. rw (dealt_for-none masks i (0 + 2 - rej)) (omega arith);
}

pub rounds-last : (g : Blocks) (masks : ℕ → ℕ) (i rej c opening : ℕ) → masks i ≡ p → rej ≡ 2 →
    Rounds g masks i rej (suc c) opening g.mask_rounds
rounds-last g masks i rej c opening all two =
    let a : 3 - rej ≡ 1 = omega arith in
    let b : suc c + 2 - rej ≡ suc c = omega arith in
    record {
      spent = λ e. rw (a, b, dealt_until-rejected masks i 0 c all, dealt_until-none masks (i + 1) c) (omega arith);
      found = λ e. cc (e, spent-last masks i rej c all two);
    }

pub rounds-more : (g : Blocks) (masks : ℕ → ℕ) (i rej c opening rounds : ℕ) → masks i ≡ p → rej < 2 →
    Rounds g masks (i + 1) (rej + 1) (suc c) opening rounds → Rounds g masks i rej (suc c) opening (g.mask_rounds + rounds)
rounds-more g masks i rej c opening rounds all h r =
    let a : 3 - rej ≡ suc (3 - (rej + 1)) = omega arith in
    let b : suc c + 2 - rej ≡ suc (suc c + 2 - (rej + 1)) = omega arith in
    let more = spent-more masks i rej c all h in
    record {
      spent = λ e.
          let left = dealt_until_rejected masks (i + 1) (3 - (rej + 1)) (suc c + 2 - (rej + 1)) in
          rw (a, b, dealt_until-rejected masks i (3 - (rej + 1)) (suc c + 2 - (rej + 1)) all)
          (omega (
            arith,
            mul-suc g.compare_rounds (3 - (rej + 1)),
            mul-add g.mask_rounds 1 left,
            mul-add g.compare_rounds 1 left,
            r.spent (sym more ∙ e),
          ));
      found = λ e.
          rw (b, dealt_for-rejected masks i c (suc c + 2 - (rej + 1)) all)
          (omega (
            arith,
            mul-add g.mask_rounds 1 (dealt_until_accepted masks (i + 1) (suc c) (suc c + 2 - (rej + 1))),
            r.found (sym more ∙ e),
          ));
    }

pub rounds-kept : (g : Blocks) (masks : ℕ → ℕ) (i rej c opening rounds : ℕ) → masks i ≢ p → rej < 3 →
    Rounds g masks (i + 1) rej c opening rounds → Rounds g masks i rej (suc c) opening (g.mask_rounds + g.compare_rounds + rounds)
rounds-kept g masks i rej c opening rounds some h r =
    let a : 3 - rej ≡ suc (2 - rej) = omega arith in
    let b : suc c + 2 - rej ≡ suc (c + 2 - rej) = omega arith in
    let kept = spent-kept masks i rej c some h in
    record {
      spent = λ e.
          let left = dealt_until_rejected masks (i + 1) (suc (2 - rej)) (c + 2 - rej) in
          rw (a, b, dealt_until-accepted masks i (2 - rej) (c + 2 - rej) some)
          (omega (arith, mul-add g.mask_rounds 1 left, mul-add g.compare_rounds 1 left, rw a at (r.spent (sym kept ∙ e))));
      found = λ e.
          rw (b, dealt_for-accepted masks i c (c + 2 - rej) some)
          (omega (
            arith,
            mul-add g.mask_rounds 1 (dealt_until_accepted masks (i + 1) c (c + 2 - rej)),
            mul-suc g.compare_rounds c,
            r.found (sym kept ∙ e),
          ));
    }

-- the rounds of a run from the first mask on, by the places of the rejected and the accepted masks
pub rounds-whole : (g : Blocks) (masks : ℕ → ℕ) (c last rounds : ℕ) → Rounds g masks 0 0 c last rounds →
    rounds ≡ masked_rounds g masks c last
rounds-whole g masks c last rounds r =
    let start = spent-start masks c in
    let n : c + 2 - 0 ≡ c + 2 = omega arith in
    elim (cases_Bool (is_spent masks c)) [
      | inl t ↦
          let e : rounds + g.compare_rounds * 3 ≡ g.mask_rounds * dealt_until_spent masks c + g.compare_rounds * dealt_until_spent masks c =
          rw (dealt-spent masks c t) at (rw n at (r.spent (start ∙ t))) in
          let three : dealt_until_spent masks c ≡ dealt_until_spent masks c - 3 + 3 =
          omega (arith, dealt-spent masks c t, dealt-three masks c t) in
          let split : g.compare_rounds * dealt_until_spent masks c
          ≡ g.compare_rounds * (dealt_until_spent masks c - 3) + g.compare_rounds * 3 =
          ap (λ (k : ℕ). g.compare_rounds * k) three ∙ mul-add g.compare_rounds (dealt_until_spent masks c - 3) 3 in
          rw t (omega (arith, e, split))
      | inr f ↦
          let e : rounds ≡ g.mask_rounds * dealt_until_accepted masks 0 c (c + 2) + g.compare_rounds * c + last =
          rw n at (r.found (start ∙ f)) in
          rw f (rw (dealt-found masks c f) at e)
    ]
