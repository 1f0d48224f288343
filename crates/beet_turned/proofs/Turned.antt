-- Turned masks, and the words whose exclusive or is one.
use Rattle.std.proofs.Common.{◌≡◌, ◌≢◌, ℕ, ◌^◌, ◌<◌, true, false, inl, inr, refl, sym, ap, ◌∙◌, arith, eq-eqb, ne_eqb}
use Rattle.std.specs.Prelude.{◌==◌, bit_xor}
use Rattle.std.specs.Int.Bits.{xor_self, xor_zero_l, xor_zero_r, xor_assoc}
use Rattle.std.proofs.lemmas.Bool.{cases_eq}
use Rattle.std.proofs.lemmas.Nat.{xor_comm}
use Rattle.beet_field.specs.Field.{p, IsElement, add_of, sub_of}
use Rattle.beet_turned.specs.Turn.{turned}

pub turned-moves : (r d : ℕ) → r ≢ p → turned r d ≡ add_of r d
turned-moves r d some = let t : (r == p) ≡ false = ne_eqb r p some in rw t refl

pub turned-stays : (r d : ℕ) → r ≡ p → turned r d ≡ p
turned-stays r d all = let t : (r == p) ≡ true = eq-eqb r p all in rw t all

-- the same masks are all ones
pub turned-ones : (r d : ℕ) → (turned r d == p) ≡ (r == p)
turned-ones r d = elim (cases_eq r p) [
  | inl all ↦ eq-eqb (turned r d) p (turned-stays r d all) ∙ sym (eq-eqb r p all)
  | inr some ↦
      let ne : turned r d ≢ p = λ e. let m = turned-moves r d some in absurd (omega arith) in
      ne_eqb (turned r d) p ne ∙ sym (ne_eqb r p some)
]

-- turned by the one and then by the other, which together come to nothing
pub turned-undone : (r d e : ℕ) → r < 2 ^ 61 → add_of d e ≡ 0 → turned (turned r d) e ≡ r
turned-undone r d e small none = elim (cases_eq r p) [
  | inl all ↦ turned-stays (turned r d) e (turned-stays r d all) ∙ sym all
  | inr some ↦
      ap (λ x. turned x e) (turned-moves r d some)
      ∙ turned-moves (add_of r d) e (let l : add_of r d < p = omega arith in λ h. absurd (omega arith))
      ∙ (let back : add_of (add_of r d) e ≡ r = omega arith in back)
]

-- what is opened under an accepted mask stays
pub turned-opens : (r y z : ℕ) → r ≢ p → IsElement y → IsElement z → add_of z (turned r (sub_of y z)) ≡ add_of y r
turned-opens r y z some few less = ap (λ x. add_of z x) (turned-moves r (sub_of y z) some)
    ∙ (let e : add_of z (add_of r (sub_of y z)) ≡ add_of y r = omega arith in e)

pub turned-small : (r d : ℕ) → r < 2 ^ 61 → turned r d < 2 ^ 61
turned-small r d small = elim (cases_eq r p) [
  | inl all ↦ let e = turned-stays r d all in omega arith
  | inr some ↦ let e = turned-moves r d some in omega arith
]

-- exclusive or
gone : (a x : ℕ) → bit_xor a (bit_xor a x) ≡ x
gone a x = sym (xor_assoc a a x) ∙ ap (λ z. bit_xor z x) (xor_self a) ∙ xor_zero_l x

gone_right : (x b : ℕ) → bit_xor (bit_xor x b) b ≡ x
gone_right x b = xor_assoc x b b ∙ ap (λ z. bit_xor x z) (xor_self b) ∙ xor_zero_r x

-- with the exclusive or of three words taken out of the first one, and another put in, the exclusive or is that one
pub first-word : (a b c r : ℕ) → bit_xor (bit_xor (bit_xor (bit_xor a (bit_xor (bit_xor a b) c)) r) b) c ≡ r
first-word a b c r =
    let x : ℕ = bit_xor b c in
    ap (λ z. bit_xor (bit_xor (bit_xor (bit_xor a z) r) b) c) (xor_assoc a b c) ∙ ap (λ z. bit_xor (bit_xor (bit_xor z r) b) c) (gone a x)
    ∙ xor_assoc (bit_xor x r) b c ∙ ap (λ z. bit_xor z x) (xor_comm x r) ∙ gone_right r x

-- and out of the second one
pub second-word : (a b c r : ℕ) → bit_xor (bit_xor a (bit_xor (bit_xor b (bit_xor (bit_xor a b) c)) r)) c ≡ r
second-word a b c r =
    let x : ℕ = bit_xor a c in
    let e : bit_xor (bit_xor a b) c ≡ bit_xor b x = ap (λ z. bit_xor z c) (xor_comm a b) ∙ xor_assoc b a c in
    ap (λ z. bit_xor (bit_xor a (bit_xor (bit_xor b z) r)) c) e ∙ ap (λ z. bit_xor (bit_xor a (bit_xor z r)) c) (gone b x)
    ∙ ap (λ z. bit_xor z c) (xor_comm a (bit_xor x r)) ∙ xor_assoc (bit_xor x r) a c ∙ ap (λ z. bit_xor z x) (xor_comm x r) ∙ gone_right r x

-- and the way back
pub word-back : (w r t : ℕ) → bit_xor (bit_xor (bit_xor (bit_xor w r) t) t) r ≡ w
word-back w r t = ap (λ z. bit_xor z r) (gone_right (bit_xor w r) t) ∙ gone_right w r
