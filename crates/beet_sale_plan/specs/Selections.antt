-- Selections: two wires are compared under a mask, and the result is not opened but multiplied.
use Rattle.std.specs.Prelude.{◌+◌, ◌-◌, ℕ, List, [], ◌∷◌, ◌++◌, length}
use Rattle.beet_gates.specs.declared.Batch.{Batch}
use Rattle.beet_gates.specs.declared.Linear.{Linear}
use Rattle.beet_gates.specs.Batches.{mul_batch}
use Rattle.beet_gates.specs.Plans.{Plan, Block, Quiet}
use Rattle.beet_masking.specs.Accepting.{until_accepted}
use Rattle.beet_masking.specs.Blocks.{Blocks, after_mask}

-- batches that open nothing, and then the rest
abbrev pub quietly : {F : Type 0} → List Batch → Plan F → Plan F
quietly [] rest = rest
quietly (b ∷ bs) rest = Quiet b (quietly bs rest)

-- a batch with lets before its own
abbrev pub lets_before : List Linear → Batch → Batch
lets_before lets b = record b { lets = record { items = lets ++ b.lets.items } }

-- a batch with lets after its own, and products as its act
abbrev pub multiplied : List Linear → List (ℕ × ℕ) → Batch → Batch
multiplied lets pairs b = mul_batch (b.lets.items ++ lets) pairs

-- a list with another last item
abbrev pub with_last : {A : Type 0} → (A → A) → List A → List A
with_last f [] = []
with_last f (x ∷ []) = f x ∷ []
with_last f (x ∷ y ∷ ys) = x ∷ with_last f (y ∷ ys)

-- what is selected by: lets before the comparison, the two wires that are compared, lets after its result, and products
pub record Selection : Type 0 where
  pub before : List Linear
  pub left : ℕ
  pub right : ℕ
  pub after : List Linear
  pub pairs : List (ℕ × ℕ)

-- the wire of the result of a comparison that begins at a wire: its last
abbrev pub result_wire : Blocks → ℕ → ℕ
result_wire blocks first = first + (blocks.compare_wires - 1)

-- the masked difference of a selection after the mask that begins at a wire, and what follows; the selection and the
-- rest are told by the first free wire after the mask. The batch that would open the result has the products in place
-- of that
abbrev pub masked_plan : {F : Type 0} → Blocks → (ℕ → Selection) → ℕ → (ℕ → Plan F) → Plan F
masked_plan blocks choose mask next =
    let free = after_mask blocks mask in
    let s = choose free in
    let from = free + length s.before in
    Block (lets_before s.before (blocks.masked from mask s.left s.right) ∷ [])
    (λ c. quietly (with_last (multiplied s.after s.pairs) (blocks.answer from mask c)) (next free))

-- a selection from its masks on
abbrev pub selection_plan : {F : Type 0} → Blocks → F → (ℕ → Selection) → ℕ → ℕ → (ℕ → ℕ → Plan F) → Plan F
selection_plan blocks spent choose spare first next =
    until_accepted blocks spent spare first (λ left mask. masked_plan blocks choose mask (next left))
