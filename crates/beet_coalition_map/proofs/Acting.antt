-- What an act does, from the polynomials of the wires that it gives.
use Rattle.std.proofs.Common.{◌≡◌, ◌+◌, inl, inr, ℕ, List, [], ◌∷◌, ◌++◌, length, refl, ◌∙◌, sym}
use Rattle.std.proofs.lemmas.List.{map-append}
use Rattle.beet_gates.specs.Each.{each}
use Rattle.beet_gates.specs.Scripts.{deals_in}
use Rattle.beet_gates.specs.declared.Act.{Act}
use Rattle.beet_gates.specs.declared.Act.TheVariants.{Deal, Mul, Reveal, End}
use Rattle.beet_gates.specs.declared.Batch.{Batch}
use Rattle.beet_gates.proofs.EachFacts.{each-same, map-each}
use Rattle.beet_gates.specs.Draws.{draws_in}
use Rattle.beet_weights.specs.Quadratics.{of_five, point_of}
use Rattle.beet_weights.specs.declared.Quadratic.{Quadratic}
use Rattle.beet_weights.proofs.Laws.{reshared-points}
use Rattle.beet_linear_sharing.specs.Runs.{Setup, Shared, act_among, batch_among, gained, opened_by, with_batch_lets}
use Rattle.beet_linear_sharing.specs.Schemes.{five_servers}
use Rattle.beet_linear_sharing.specs.Sharings.{IsAmong}
use Rattle.beet_coalition.specs.Lists.{at_server}
use Rattle.beet_coalition.specs.Premise.{Secrets, begin_in}
use Rattle.beet_coalition_map.specs.Begins.{AreHeld, Begins}
use Rattle.beet_coalition_map.specs.Steps.{Stage, acted, dealing, hidden_by, lets_added, points_at, polynomials, product_by}
use Rattle.beet_coalition_map.specs.Steps.{run_of, stage_of, start_on}

-- the points of what one server hides
hidden-points : (o : Setup) (s : Shared) (a : Act) (j i n : ℕ) →
    points_at (each (hidden_by o s a j) n) i ≡ each (λ k. point_of (hidden_by o s a j k).value (hidden_by o s a j k).first
    (hidden_by o s a j k).second i) n
hidden-points o s a j i n = map-each (λ (x : Quadratic). point_of x.value x.first x.second i) (hidden_by o s a j) n

pub points-gained : (a : Act) (o : Setup) (s : Shared) (i : ℕ) → points_at (polynomials o s a) i ≡ gained five_servers o s a i
points-gained Deal o s i =
    let f : Quadratic → ℕ = λ x. point_of x.value x.first x.second i in
    let one = each (hidden_by o s Deal 1) 61 in
    let two = each (hidden_by o s Deal 2) 61 in
    let three = each (hidden_by o s Deal 3) 61 in
    let four = each (hidden_by o s Deal 4) 61 in
    let five = each (hidden_by o s Deal 5) 61 in
    let last = map-append f four five ∙ (λ x. hidden-points o s Deal 4 i 61 x ++ hidden-points o s Deal 5 i 61 x) in
    let more = map-append f three (four ++ five) ∙ (λ x. hidden-points o s Deal 3 i 61 x ++ last x) in
    let next = map-append f two (three ++ (four ++ five)) ∙ (λ x. hidden-points o s Deal 2 i 61 x ++ more x) in
    map-append f one (two ++ (three ++ (four ++ five))) ∙ (λ x. hidden-points o s Deal 1 i 61 x ++ next x)
points-gained (Mul pairs) o s i =
    let f : Quadratic → ℕ = λ x. point_of x.value x.first x.second i in
    map-each f (product_by o s (Mul pairs)) (length pairs.items)
    ∙ each-same (λ k. f (product_by o s (Mul pairs) k)) (λ k. five_servers.reshared (λ j. f (hidden_by o s (Mul pairs) j k)))
    (length pairs.items)
    (λ k lt. sym (reshared-points (λ j. (hidden_by o s (Mul pairs) j k).value) (λ j. (hidden_by o s (Mul pairs) j k).first)
    (λ j. (hidden_by o s (Mul pairs) j k).second) i))
points-gained (Reveal shown) o s i = refl
points-gained End o s i = refl

-- what an act does, in parts
pub acts : (a : Act) (masks numbers : List (List ℕ)) (s : Stage) (given : List Quadratic) →
    given ≡ polynomials (dealing masks numbers) (run_of s) a →
    record {
      wires = of_five (λ i. at_server s.wires i ++ points_at given i);
      opened = s.opened ++ opened_by five_servers (run_of s) a;
      hidden = s.hidden + draws_in a;
      dealt = s.dealt + deals_in a;
    } ≡ acted masks numbers a s
acts a masks numbers s given is =
    let g : (i : ℕ) → points_at given i ≡ gained five_servers (dealing masks numbers) (run_of s) a i =
    λ i. (λ x. points_at (is x) i) ∙ points-gained a (dealing masks numbers) (run_of s) i in
    λ x. record {
      wires = of_five (λ i. at_server s.wires i ++ g i x);
      opened = s.opened ++ opened_by five_servers (run_of s) a;
      hidden = s.hidden + draws_in a;
      dealt = s.dealt + deals_in a;
    }

-- an act looks at the words and the numbers of the five servers alone
acts-five : (masks numbers : List (List ℕ)) (a : Act) (s : Stage) → acted masks numbers a s ≡ acted (of_five (at_server masks)) numbers a s
acts-five masks numbers Deal s = refl
acts-five masks numbers (Mul pairs) s = refl
acts-five masks numbers (Reveal shown) s = refl
acts-five masks numbers End s = refl

acts-there : (next : ℕ → List ℕ → Batch) (w : Secrets) (numbers : List (List ℕ)) (a : Act) (r : Shared) →
    acted (of_five w.masks) numbers a (stage_of r) ≡ stage_of (act_among five_servers (begin_in next w (at_server numbers)) a r)
acts-there next w numbers Deal r = refl
acts-there next w numbers (Mul pairs) r = refl
acts-there next w numbers (Reveal shown) r = refl
acts-there next w numbers End r = refl

same-masks : (masks : List (List ℕ)) (held : ℕ → List ℕ) → ((j : ℕ) → IsAmong five_servers.servers j → held j ≡ at_server masks j) →
    of_five (at_server masks) ≡ of_five held
same-masks masks held same =
    let one = same 1 (inl refl) in
    let two = same 2 (inr (inl refl)) in
    let three = same 3 (inr (inr (inl refl))) in
    let four = same 4 (inr (inr (inr (inl refl)))) in
    let five = same 5 (inr (inr (inr (inr (inl refl))))) in
    λ x. sym one x ∷ sym two x ∷ sym three x ∷ sym four x ∷ sym five x ∷ []

-- the points of the inputs with which the run of a world begins
pub begins-there : (inputs : List (List ℕ)) (held : ℕ → List ℕ) →
    ((j : ℕ) → IsAmong five_servers.servers j → held j ≡ at_server inputs j) →
    start_on inputs ≡ record { wires = of_five held; opened = []; hidden = 0; dealt = 0 }
begins-there inputs held same = λ x. record { wires = same-masks inputs held same x; opened = []; hidden = 0; dealt = 0 }

-- a batch that is done on lists of the five servers is done on the run
pub batch-done : (next : ℕ → List ℕ → Batch) (w : Secrets) (begins : Begins) → AreHeld w begins → (numbers : List (List ℕ)) (b : Batch)
    (r : Shared) →
    acted begins.masks numbers b.act (lets_added b (stage_of r))
    ≡ stage_of (batch_among five_servers (begin_in next w (at_server numbers)) b r)
batch-done next w begins held numbers b r =
    acts-five begins.masks numbers b.act (stage_of (with_batch_lets b r))
    ∙ (λ x. acted (same-masks begins.masks w.masks held.masks x) numbers b.act (stage_of (with_batch_lets b r)))
    ∙ acts-there next w numbers b.act (with_batch_lets b r)
