-- What the levels of a tree do in a clear run: the product of all bits is opened.
use Rattle.std.proofs.Common.{◌≡◌, ℕ, zero, suc, ◌+◌, ◌*◌, ◌/◌, ◌^◌, ◌<◌, ◌≤◌, List, [], ◌∷◌, ◌++◌, map, length, refl}
use Rattle.std.proofs.Common.{ap, sym, ◌∙◌, arith, length-append, append_assoc, append-nil, pow-suc}
use Rattle.beet_field.specs.Field.{p}
use Rattle.beet_gates.specs.Clear.{Values, product_of, batches_on}
use Rattle.beet_gates.specs.Each.{each}
use Rattle.beet_gates.specs.Levels.{each_pair, next_length, next_item}
use Rattle.beet_gates.proofs.Between.{same_between, same-splits, same-bit}
use Rattle.beet_gates.proofs.Bits.{mul_of-bits}
use Rattle.beet_gates.proofs.EachFacts.{length-each}
use Rattle.beet_gates.proofs.LevelFacts.{Covers, next-covers, covers-one}
use Rattle.beet_gates.proofs.LevelRuns.{Listed, listed-append, listed-next}
use Rattle.beet_gates.proofs.Segments.{holds-new, products-each}
use Rattle.beet_mask.specs.Mask.{tree_batches}

-- what they leave
pub record AfterTree (n r : ℕ) (v after : Values) : Type 0 where
  pub more : List ℕ
  pub wires : after.wires ≡ v.wires ++ more
  pub len : length more + 1 ≡ n
  pub opened : after.opened ≡ v.opened ++ same_between r p 0 61 ∷ []
  pub dealt : after.dealt ≡ v.dealt

pub tree-run : (deals : ℕ → List ℕ) (r levels wide n : ℕ) (item value : ℕ → ℕ) (free : ℕ) (v : Values) →
    length v.wires ≡ free → 1 ≤ n → n ≤ 2 ^ levels →
    Listed v.wires n item value → Covers (same_between r p) 61 wide n value →
    AfterTree n r v (batches_on deals (tree_batches levels [] n item free) v)
tree-run deals r zero wide n item value free v len some few h covers =
    let one : n ≡ 1 = omega (arith, few) in
    let whole : value 0 ≡ same_between r p 0 61 = covers-one (same_between r p) 61 wide value (rw one at covers) in
    record {
      more = [];
      wires = sym (append-nil v.wires);
      len = sym one;
      opened = ap (λ (x : ℕ). v.opened ++ x ∷ []) (h.at 0 some ∙ whole);
      dealt = refl;
    }
tree-run deals r (suc levels) wide n item value free v len some few h covers =
    let half = n / 2 in
    let power : 2 ^ suc levels ≡ 2 ^ levels * 2 = pow-suc 2 levels in
    let bit : (k : ℕ) → k < n → value k < 2 = λ k l. rw (covers.at k l) (same-bit r p _ _) in
    let result = λ (i : ℕ). value (2 * i) * value (2 * i + 1) in
    let products : map (product_of v.wires) (each_pair (λ left right. (left, right)) item n) ≡ each result half =
    products-each v.wires (λ i. (item (2 * i), item (2 * i + 1))) result half
    (λ k l.
    let a : 2 * k < n = omega (arith, l) in
    let b : 2 * k + 1 < n = omega (arith, l) in
    rw (h.at (2 * k) a, h.at (2 * k + 1) b) (mul_of-bits (value (2 * k)) (value (2 * k + 1)) (bit (2 * k) a) (bit (2 * k + 1) b))) in
    let now = v.wires ++ each result half in
    let new = holds-new v.wires free half result len in
    let len_now : length now ≡ free + half = omega (arith, length-append v.wires (each result half), length-each result half) in
    let place = λ (i : ℕ). free + i in
    let listed = listed-next now n item value place result (listed-append v.wires (each result half) n item value h)
    (record { below = λ k l. omega (arith, len_now, l); at = new.at }) in
    let next = next-covers (λ low high. low * high) (same_between r p) (same-splits r p) 61 wide n value result covers (λ k l. refl) in
    let rest = tree_batches levels [] (next_length n) (next_item n item place) (free + half) in
    let m = tree-run deals r levels (2 * wide) (next_length n) (next_item n item place) (next_item n value result)
    (free + half) (record v { wires = now })
    len_now (omega (arith, some)) (omega (arith, some, few, power)) listed next in
    let e : batches_on deals (tree_batches (suc levels) [] n item free) v ≡ batches_on deals rest (record v { wires = now }) =
    ap (λ (l : List ℕ). batches_on deals rest (record v { wires = v.wires ++ l })) products in
    rw e (record {
      more = each result half ++ m.more;
      wires = m.wires ∙ append_assoc v.wires (each result half) m.more;
      len = omega (arith, length-append (each result half) m.more, length-each result half, m.len);
      opened = m.opened;
      dealt = m.dealt;
    })
