-- What a comparison does to a run whose first wires are the sums.
use Rattle.std.proofs.Common.{◌≡◌, ℕ, ◌+◌, ◌<◌, ◌≤◌, List, [], ◌∷◌, ◌++◌, length, slice_index, ◌∙◌, arith, zero-add}
use Rattle.std.specs.Prelude.{if◌then◌else◌}
use Rattle.std.specs.Int.{bit_at}
use Rattle.beet_gates.specs.Clear.{Values, batches_on}
use Rattle.beet_gates.proofs.PlanRuns.{opened_by}
use Rattle.beet_gates.proofs.PlanFacts.{opened-new}
use Rattle.beet_gates.proofs.Segments.{Holds, holds-append}
use Rattle.beet_field.specs.Field.{IsElement, add_of}
use Rattle.beet_compare.specs.Compare.{doubled, is_doubled_even}
use Rattle.beet_masking.specs.Blocks.{Blocks}
use Rattle.beet_masking.proofs.BlockLaws.{AreBlocks}

-- the sums are the first wires, `first` is the first free wire, and i masks were dealt
pub record Stands (prices : ℕ) (supply demand : ℕ → ℕ) (first i : ℕ) (v : Values) : Type 0 where
  pub len : length v.wires ≡ first
  pub supplies : Holds v.wires 0 prices supply
  pub demands : Holds v.wires prices prices demand
  pub dealt : v.dealt ≡ i

-- the sums are numbers of the field
pub record AreElements (prices : ℕ) (supply demand : ℕ → ℕ) : Type 0 where
  pub supply_element : (k : ℕ) → k < prices → IsElement (supply k)
  pub demand_element : (k : ℕ) → k < prices → IsElement (demand k)

pub stands-append : (prices : ℕ) (supply demand : ℕ → ℕ) (first first' i i' : ℕ) (v after : Values) (more : List ℕ) →
    Stands prices supply demand first i v → after.wires ≡ v.wires ++ more → length after.wires ≡ first' → after.dealt ≡ i' →
    Stands prices supply demand first' i' after
stands-append prices supply demand first first' i i' v after more s e len dealt = record {
  len = len;
  supplies = rw e (holds-append v.wires more 0 prices supply s.supplies);
  demands = rw e (holds-append v.wires more prices prices demand s.demands);
  dealt = dealt;
}

-- a comparison is made
pub record CompareStep (g : Blocks) (prices : ℕ) (supply demand : ℕ → ℕ) (first r i place : ℕ) (v middle after : Values) : Type 0 where
  pub stands : Stands prices supply demand (first + g.compare_wires) i after
  pub masked : opened_by v middle ≡ add_of (doubled (supply place) (demand place)) r
  pub opened : opened_by middle after ≡ (if is_doubled_even (supply place) (demand place) then 1 else 0)

abbrev pub after_masked : Blocks → (ℕ → List ℕ) → ℕ → ℕ → ℕ → ℕ → Values → Values
after_masked g deals first mask supply demand v = batches_on deals (g.masked first mask supply demand ∷ []) v

pub compare-step : (g : Blocks) → AreBlocks g →
    (deals : ℕ → List ℕ) (prices : ℕ) (supply demand : ℕ → ℕ) (first mask r i place : ℕ) (v : Values) →
    AreElements prices supply demand → Stands prices supply demand first i v → mask + g.mask_wires ≤ first →
    ((k : ℕ) → k < 61 → slice_index v.wires (g.bit mask k) ≡ bit_at r k) → IsElement r → place < prices →
    (let middle = after_masked g deals first mask place (prices + place) v in
    CompareStep g prices supply demand first r i place v middle (batches_on deals (g.answer first mask (opened_by v middle)) middle))
compare-step g are deals prices supply demand first mask r i place v small s room bits hr hp =
    let middle = after_masked g deals first mask place (prices + place) v in
    let c = add_of (doubled (supply place) (demand place)) r in
    let a = are.comparisons.runs deals first mask place (prices + place) r (supply place) (demand place) v (record {
      len = s.len;
      accepted = hr;
      room = room;
      bits = bits;
      supply_before = omega (arith, s.demands.room, s.len);
      demand_before = omega (arith, s.demands.room, s.len);
      supply_is = rw zero-add at (s.supplies.at place hp);
      demand_is = s.demands.at place hp;
      supply_element = small.supply_element place hp;
      demand_element = small.demand_element place hp;
    }) in
    let masked : opened_by v middle ≡ c = opened-new v middle c a.masked in
    let after = batches_on deals (g.answer first mask c) middle in
    rw masked (record {
      stands = stands-append prices supply demand first (first + g.compare_wires) i i v after a.more s a.wires a.len (a.dealt ∙ s.dealt);
      masked = masked;
      opened = opened-new middle after _ a.opened;
    })
