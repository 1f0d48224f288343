use Rattle.std.proofs.Common.{ℕ, List, Vec, Global, Err, rules, subst, ◌∙◌}
use Rattle.std.proofs.lemmas.Result.{err_from_is_err_and}
use Rattle.beet_forms.specs.Faults.{Answers}
use Rattle.beet_words.specs.Fields.{number_at}
use Rattle.beet_words.specs.Bundles.{Words, bundle_of}
use Rattle.beet_words.proofs.BundleParts.{after_servers}
use Rattle.beet_words.proofs.Times.{first-fault}
use Rattle.beet_words.proofs.bundle.read_bundle.Goals as goal

pub returns-in_err-at : goal.returns-in_err-at
unfolding bundle_of
returns-in_err-at c =
    let p = err_from_is_err_and c.from_residual.result c.from_residual.ensures.1 in
    rw (p.1, p.2) (first-fault _ _ (λ (at : ℕ). at) (λ (words : Words). words) c.in_err-at.field-0.0 c.in_err-at.ensures.magic)

pub returns-in_err-count : goal.returns-in_err-count
unfolding bundle_of
returns-in_err-count c =
    let p = err_from_is_err_and c.from_residual-in_err-count.result c.from_residual-in_err-count.ensures.1 in
    let count = subst (λ allowed. Answers (λ (read : ℕ × ℕ). read) (number_at c.args.bytes.now allowed c.in_ok-at.at)
    (Err c.in_err-count.field-0.0))
    c.up_to.ensures c.in_err-count.ensures.number in
    rw (c.in_ok-at.ensures.magic, p.1, p.2)
    (first-fault _ _ (λ (read : ℕ × ℕ). read) (λ (words : Words). words) c.in_err-count.field-0.0 count)

pub returns-in_err-one : goal.returns-in_err-one
unfolding bundle_of
returns-in_err-one c =
    let p = err_from_is_err_and c.from_residual-in_err-one.result c.from_residual-in_err-one.ensures.1 in
    let count = rw c.up_to.ensures at c.in_ok-count.ensures.number in
    rw (c.in_ok-at.ensures.magic, count, p.1, p.2)
    (first-fault _ _ (λ (read : (List ℕ × List ℕ) × ℕ). read) (λ (words : Words). words) c.in_err-one.field-0.0 c.in_err-one.ensures.lists)

pub returns-in_err-one-2 : goal.returns-in_err-one-2
unfolding bundle_of
returns-in_err-one-2 c =
    let p = err_from_is_err_and c.from_residual-in_err-one-2.result c.from_residual-in_err-one-2.ensures.1 in
    let count = rw c.up_to.ensures at c.in_ok-count.ensures.number in
    let two = rw c.in_err-one-2.ensures at c.read_server-2.ensures.lists in
    rw (c.in_ok-at.ensures.magic, count, c.in_ok-one.ensures.lists, p.1, p.2)
    (first-fault _ _ (λ (read : (List ℕ × List ℕ) × ℕ). read) (λ (words : Words). words) c.in_err-one-2.field-0.0 two)

pub returns-in_err-one-3 : goal.returns-in_err-one-3
unfolding bundle_of
returns-in_err-one-3 c =
    let p = err_from_is_err_and c.from_residual-in_err-one-3.result c.from_residual-in_err-one-3.ensures.1 in
    let count = rw c.up_to.ensures at c.in_ok-count.ensures.number in
    let two = rw c.in_ok-one-2.ensures.1 at c.read_server-2.ensures.lists in
    let three = rw c.in_err-one-3.ensures at c.read_server-3.ensures.lists in
    rw (c.in_ok-at.ensures.magic, count, c.in_ok-one.ensures.lists, two, p.1, p.2)
    (first-fault _ _ (λ (read : (List ℕ × List ℕ) × ℕ). read) (λ (words : Words). words) c.in_err-one-3.field-0.0 three)

pub returns-in_err-servers : goal.returns-in_err-servers
returns-in_err-servers c =
    let p = err_from_is_err_and c.from_residual-in_err-servers.result c.from_residual-in_err-servers.ensures.1 in
    let count = rw c.up_to.ensures at c.in_ok-count.ensures.number in
    let two = rw c.in_ok-one-2.ensures.1 at c.read_server-2.ensures.lists in
    let three = rw c.in_ok-one-3.ensures.1 at c.read_server-3.ensures.lists in
    let bidders = rw c.in_err-servers.ensures at c.read_lists.ensures.lists in
    rw (after_servers c.args.bytes.now _ _ _ _ _ _ _ _ _ c.in_ok-at.ensures.magic count c.in_ok-one.ensures.lists two three, p.1, p.2)
    (first-fault _ _ (λ (read : Vec (List ℕ) Global × ℕ). (read.0.items, read.1))
    (λ (words : Words). words) c.in_err-servers.field-0.0 bidders)

pub returns-in_err-words : goal.returns-in_err-words
returns-in_err-words c =
    let p = err_from_is_err_and c.from_residual-in_err-words.result c.from_residual-in_err-words.ensures.1 in
    let count = rw c.up_to.ensures at c.in_ok-count.ensures.number in
    let two = rw c.in_ok-one-2.ensures.1 at c.read_server-2.ensures.lists in
    let three = rw c.in_ok-one-3.ensures.1 at c.read_server-3.ensures.lists in
    let bidders = rw c.in_ok-servers.ensures.1 at c.read_lists.ensures.lists in
    let end = rw c.in_err-words.ensures at c.read_end.ensures in
    rw (
      after_servers c.args.bytes.now _ _ _ _ _ _ _ _ _ c.in_ok-at.ensures.magic count c.in_ok-one.ensures.lists two three,
      bidders,
      p.1,
      p.2,
    )
    (first-fault _ _ (λ (done : Unit {0}). done) (λ (words : Words). words) c.in_err-words.field-0.0 end)

pub returns : goal.returns
returns c =
    let count = rw c.up_to.ensures at c.in_ok-count.ensures.number in
    let two = rw c.in_ok-one-2.ensures.1 at c.read_server-2.ensures.lists in
    let three = rw c.in_ok-one-3.ensures.1 at c.read_server-3.ensures.lists in
    let bidders = rw c.in_ok-servers.ensures.1 at c.read_lists.ensures.lists in
    let end = rw c.in_ok-words.ensures.1 at c.read_end.ensures in
    after_servers c.args.bytes.now _ _ _ _ _ _ _ _ _ c.in_ok-at.ensures.magic count c.in_ok-one.ensures.lists two three
    ∙ rw (bidders, end) (search rules)
