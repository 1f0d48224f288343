-- What the batches after the products of words do in a clear run: the bits of the mask are formed, and their product is opened.
use Rattle.std.proofs.Common.{◌≡◌, ℕ, zero, suc, ◌+◌, ◌*◌, ◌^◌, ◌<◌, List, [], ◌∷◌, ◌++◌, length, slice_index, refl, ap}
use Rattle.std.proofs.Common.{sym, ◌∙◌, arith, length-append, append_assoc, add-zero, add_assoc, add-one}
use Rattle.std.specs.Prelude.{◌==◌, if◌then◌else◌, min}
use Rattle.std.specs.Int.{bit_at}
use Rattle.std.proofs.lemmas.Nat.Bits.{bit_at-lt}
use Rattle.beet_field.specs.Field.{p}
use Rattle.beet_gates.specs.Batches.{mul_batch, reveal_batch}
use Rattle.beet_gates.specs.Clear.{Values, with_lets, product_of, batches_on}
use Rattle.beet_gates.specs.Each.{each}
use Rattle.beet_gates.specs.declared.Linear.{Linear}
use Rattle.beet_gates.specs.declared.Gates.{Gates}
use Rattle.beet_gates.specs.declared.Gates.TheVariants.{Chain, Tree}
use Rattle.beet_gates.proofs.Between.{same_between, same-splits, same-bit}
use Rattle.beet_gates.proofs.Bits.{mul_of-bits}
use Rattle.beet_gates.proofs.EachFacts.{length-each, each-one, each-zero, each-suc}
use Rattle.beet_gates.proofs.LevelFacts.{Covers}
use Rattle.beet_gates.proofs.LevelRuns.{Listed}
use Rattle.beet_gates.proofs.Segments.{Holds, holds-append, holds-new, batches_on-append}
use Rattle.beet_mask.specs.Mask.{chain_batches, product_batches, tree_batches}
use Rattle.beet_mask.proofs.MaskMeaning.{ones-bit, ones-all}
use Rattle.beet_mask.proofs.TreeRun.{tree-run}

-- the values before: the mask r is about to have its bits at their wires
pub record BeforeBits (lets : List Linear) (bits r : ℕ) (v : Values) : Type 0 where
  pub len : length v.wires ≡ bits
  pub forms : with_lets v.wires lets ≡ v.wires ++ each (bit_at r) 61
  pub small : r < 2 ^ 61

-- the values after
pub record AfterProduct (r : ℕ) (v after : Values) : Type 0 where
  pub more : List ℕ
  pub wires : after.wires ≡ v.wires ++ (each (bit_at r) 61 ++ more)
  pub len : length more ≡ 60
  pub opened : after.opened ≡ v.opened ++ (if r == p then 1 else 0) ∷ []
  pub dealt : after.dealt ≡ v.dealt

-- the chain of products: the item at i is the product of the bits 0 to i + 1
abbrev chain : ℕ → ℕ → ℕ
chain r i = same_between r p 0 (suc (suc i))

-- one bit more
chain-more : (r k : ℕ) → k < 61 → same_between r p 0 k * bit_at r k ≡ same_between r p 0 (suc k)
chain-more r k h =
    let e : same_between r p 0 k * same_between r p k (k + 1) ≡ same_between r p 0 (k + 1) =
    same-splits r p 0 k (k + 1) (omega arith) (omega arith) in
    rw (ones-bit r k h, add-one) at e

chain-run : (deals : ℕ → List ℕ) (bits r : ℕ) (v : Values) (wires : List ℕ) → length wires ≡ bits + 61 →
    Holds wires bits 61 (bit_at r) → v.wires ≡ wires ++ each (chain r) 1 → (n : ℕ) → n < 60 →
    batches_on deals (each (λ j. mul_batch [] ((bits + 61 + j, bits + 2 + j) ∷ [])) n) v
    ≡ record v { wires = wires ++ each (chain r) (suc n) }
chain-run deals bits r v wires len holds now zero h =
    rw (each-zero (λ (j : ℕ). mul_batch [] ((bits + 61 + j, bits + 2 + j) ∷ []))) (ap (λ (l : List ℕ). record v { wires = l }) now)
chain-run deals bits r v wires len holds now (suc n) h =
    let rule = λ (j : ℕ). mul_batch [] ((bits + 61 + j, bits + 2 + j) ∷ []) in
    let m : batches_on deals (each rule n) v ≡ record v { wires = wires ++ each (chain r) (suc n) } =
    chain-run deals bits r v wires len holds now n (omega arith) in
    let before = wires ++ each (chain r) (suc n) in
    let t : slice_index before (bits + 61 + n) ≡ chain r n = (holds-new wires (bits + 61) (suc n) (chain r) len).at n (omega arith) in
    let place : bits + 2 + n ≡ bits + suc (suc n) = omega arith in
    let b : slice_index before (bits + 2 + n) ≡ bit_at r (suc (suc n)) =
    rw place ((holds-append wires _ bits 61 _ holds).at (suc (suc n)) (omega arith)) in
    let product : product_of before (bits + 61 + n, bits + 2 + n) ≡ chain r (suc n) =
    rw (t, b) (mul_of-bits (chain r n) (bit_at r (suc (suc n))) (same-bit r p 0 (suc (suc n)))
    (bit_at-lt r (suc (suc n)))) ∙ chain-more r (suc (suc n)) (omega arith) in
    rw (each-suc rule n, batches_on-append deals (each rule n) (rule n ∷ []) v, m, product)
    (ap (λ (l : List ℕ). record v { wires = l })
    (append_assoc wires (each (chain r) (suc n)) (chain r (suc n) ∷ [])
    ∙ ap (λ (l : List ℕ). wires ++ l) (sym (each-suc (chain r) (suc n)))))

chain-product : (deals : ℕ → List ℕ) (lets : List Linear) (bits r : ℕ) (v : Values) → BeforeBits lets bits r v →
    AfterProduct r v (batches_on deals (chain_batches lets bits) v)
chain-product deals lets bits r v h =
    let five = v.wires ++ each (bit_at r) 61 in
    let len : length five ≡ bits + 61 = omega (arith, h.len, length-append v.wires (each (bit_at r) 61), length-each (bit_at r) 61) in
    let holds = holds-new v.wires bits 61 (bit_at r) h.len in
    let x0 : slice_index five bits ≡ bit_at r 0 = rw add-zero at (holds.at 0 (omega arith)) in
    let x1 : slice_index five (bits + 1) ≡ bit_at r 1 = holds.at 1 (omega arith) in
    let both : bit_at r 0 * bit_at r 1 ≡ chain r 0 = rw (ones-bit r 0 (omega arith)) at (chain-more r 1 (omega arith)) in
    let x : product_of five (bits, bits + 1) ≡ chain r 0 =
    rw (x0, x1) (mul_of-bits (bit_at r 0) (bit_at r 1) (bit_at-lt r 0) (bit_at-lt r 1)) ∙ both in
    let six : Values = record v { wires = five ++ chain r 0 ∷ [] } in
    let rule = λ (j : ℕ). mul_batch [] ((bits + 61 + j, bits + 2 + j) ∷ []) in
    let last = reveal_batch [] ((bits + 120) ∷ []) ∷ [] in
    let begun : batches_on deals (mul_batch lets ((bits, bits + 1) ∷ []) ∷ []) v ≡ six = rw (h.forms, x) refl in
    let y : batches_on deals (each rule 59) six ≡ record six { wires = five ++ each (chain r) 60 } =
    chain-run deals bits r six five len holds (ap (λ (l : List ℕ). five ++ l) (sym (each-one (chain r)))) 59 (omega arith) in
    let z : slice_index (five ++ each (chain r) 60) (bits + 120) ≡ (if r == p then 1 else 0) =
    rw add_assoc at ((holds-new five (bits + 61) 60 (chain r) len).at 59 (omega arith)) ∙ ones-all r h.small in
    let e : batches_on deals (chain_batches lets bits) v
    ≡ record v { wires = five ++ each (chain r) 60; opened = v.opened ++ (if r == p then 1 else 0) ∷ [] } =
    ap (batches_on deals (each rule 59 ++ last)) begun
    ∙ batches_on-append deals (each rule 59) last six
    ∙ ap (batches_on deals last) y
    ∙ ap (λ (n : ℕ). record v { wires = five ++ each (chain r) 60; opened = v.opened ++ n ∷ [] }) z in
    rw e (record {
      more = each (chain r) 60;
      wires = append_assoc v.wires (each (bit_at r) 61) (each (chain r) 60);
      len = length-each (chain r) 60;
      opened = refl;
      dealt = refl;
    })

tree-product : (deals : ℕ → List ℕ) (lets : List Linear) (bits r : ℕ) (v : Values) → BeforeBits lets bits r v →
    AfterProduct r v (batches_on deals (product_batches Tree lets bits) v)
tree-product deals lets bits r v h =
    let five = v.wires ++ each (bit_at r) 61 in
    let now : Values = record v { wires = five } in
    let len : length five ≡ bits + 61 = omega (arith, h.len, length-append v.wires (each (bit_at r) 61), length-each (bit_at r) 61) in
    let holds = holds-new v.wires bits 61 (bit_at r) h.len in
    let wire : ℕ → ℕ = λ k. bits + k in
    let listed : Listed five 61 wire (bit_at r) = record { below = λ k l. omega (arith, len, l); at = holds.at } in
    let covers : Covers (same_between r p) 61 1 61 (bit_at r) = record {
      whole = omega arith;
      at = λ k l.
          let start : min (1 * k) 61 ≡ k = omega (arith, l) in
          let stop : min (1 * (k + 1)) 61 ≡ k + 1 = omega (arith, l) in
          rw (start, stop) (sym (ones-bit r k l));
    } in
    let m = tree-run deals r 6 1 61 wire (bit_at r) (bits + 61) now len (omega arith) (omega arith) listed covers in
    let e : batches_on deals (product_batches Tree lets bits) v ≡ batches_on deals (tree_batches 6 [] 61 wire (bits + 61)) now =
    ap (λ (l : List ℕ). batches_on deals (tree_batches 6 [] 61 wire (bits + 61)) (record v { wires = l })) h.forms in
    rw e (record {
      more = m.more;
      wires = m.wires ∙ append_assoc v.wires (each (bit_at r) 61) m.more;
      len = omega (arith, m.len);
      opened = m.opened ∙ ap (λ (n : ℕ). v.opened ++ n ∷ []) (ones-all r h.small);
      dealt = m.dealt;
    })

pub product-run : (deals : ℕ → List ℕ) (gates : Gates) (lets : List Linear) (bits r : ℕ) (v : Values) → BeforeBits lets bits r v →
    AfterProduct r v (batches_on deals (product_batches gates lets bits) v)
product-run deals Chain lets bits r v h = chain-product deals lets bits r v h
product-run deals Tree lets bits r v h = tree-product deals lets bits r v h
