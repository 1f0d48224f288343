use Rattle.std.proofs.Common.{ap, ◌∙◌, sym}
use Rattle.beet_store.specs.Files.{File}
use Rattle.beet_store.proofs.FileFacts.{replaced_file, replaced_others, added_file, added_others}
use Rattle.beet_store.proofs.memory_desk.replace.Goals as goal

pub returns-in-Some-clause-file : goal.returns-in-Some-clause-file
returns-in-Some-clause-file c =
    rw c.in_ok-bytes.ensures.items (
    replaced_file c.args.files.now.items c.in-Some.at c.index_mut-file.result.now _ c.args.name.now c.args.bytes.now
    (rw c.as_slice.ensures.value at c.in-Some.ensures.found) c.index_mut-file.ensures.value (ap (λ (f : File). f.0) c.file.view_is))

pub returns-in-Some-clause-others : goal.returns-in-Some-clause-others
returns-in-Some-clause-others c = λ other apart.
    replaced_others c.args.files.now.items c.in-Some.at c.index_mut-file.result.now _ c.args.name.now _ other
    (rw c.as_slice.ensures.value at c.in-Some.ensures.found) c.index_mut-file.ensures.value (ap (λ (f : File). f.0) c.file.view_is) apart

pub returns-clause-file : goal.returns-clause-file
returns-clause-file c =
    rw (c.in_ok-push.ensures.items, c.in_ok-bytes.ensures.items) (
    added_file c.args.files.now.items _ c.args.name.now c.in_ok-name.ensures.ok
    (rw c.as_slice.ensures.value at c.in_default.ensures.missing))

pub returns-clause-others : goal.returns-clause-others
returns-clause-others c = λ other apart.
    rw c.in_ok-push.ensures.items (added_others c.args.files.now.items _ other (λ e. apart (sym e ∙ c.in_ok-name.ensures.ok)))
