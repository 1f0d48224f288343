use Rattle.std.proofs.Common.{◌≡◌, ◌++◌, ◌+◌, ◌*◌, ℕ, slice_index, sym, ap, ◌∙◌, append-nil}
use Rattle.std.specs.List.{flat_map}
use Rattle.std.proofs.lemmas.List.{get_or_default}
use Rattle.beet_words.specs.Fields.{number_bytes}
use Rattle.beet_gates.proofs.EachFacts.{each-zero}
use Rattle.beet_weights.specs.Quadratics.{point_of}
use Rattle.beet_five_view.proofs.More.{each-bytes-more}
use Rattle.beet_five_view.proofs.writing.push_hidden.Goals as goal

pub loop-k-init : goal.loop-k-init
loop-k-init c =
    let share : ℕ → ℕ = λ k.
    point_of (slice_index c.args.values.now k) (slice_index c.args.numbers.now (2 * k)) (slice_index c.args.numbers.now (2 * k + 1))
    c.args.server in
    sym (ap (λ l. c.args.file.now.items ++ flat_map number_bytes l) (each-zero share) ∙ append-nil c.args.file.now.items)

pub loop-k-preserved : goal.loop-k-preserved
loop-k-preserved c =
    let k = c.loop-k.k in
    let values = c.args.values.now in
    let share : ℕ → ℕ = λ k.
    point_of (slice_index values k) (slice_index c.args.numbers.now (2 * k)) (slice_index c.args.numbers.now (2 * k + 1)) c.args.server
    in
    let value : c.index-values-k.result ≡ slice_index values k =
    c.index-values-k.is ∙ get_or_default values k c.index-values-k.result 0 c.loop-k-test.true in
    let point : c.value.result ≡ share k =
    c.value.ensures.value ∙ c.at.ensures
    ∙ (λ j. point_of (value j) (c.number_at.ensures j) (c.number_at-in-loop-k.ensures j) c.args.server) in
    each-bytes-more number_bytes share k c.args.file.now.items c.loop-k.file.items c.push_number.new.file.items c.loop-k.invariant
    (c.in_ok-push_number.ensures ∙ ap (λ x. c.loop-k.file.items ++ number_bytes x) point)
