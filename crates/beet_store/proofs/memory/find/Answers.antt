use Rattle.std.proofs.Common.{ap, sym, ◌∙◌, Some}
use Rattle.beet_store.specs.Files.{File}
use Rattle.beet_store.proofs.FileFacts.{bytes_of-first}
use Rattle.beet_store.proofs.memory.find.Goals as goal

pub returns-in-Some : goal.returns-in-Some
returns-in-Some c =
    ap Some (c.as_slice.ensures.value ∙ ap (λ (f : File). f.1) c.file.view_is)
    ∙ sym (bytes_of-first c.args.files.now c.in-Some.at c.index-files-at.result c.args.name.now c.in-Some.ensures.found c.index-files-at.is)
