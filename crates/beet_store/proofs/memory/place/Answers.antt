use Rattle.std.proofs.Common.{arith, ap, sym, ◌∙◌}
use Rattle.beet_store.specs.Files.{File}
use Rattle.beet_store.proofs.FileFacts.{is_first, take_passed}
use Rattle.beet_store.proofs.memory.place.Goals as goal

pub returns-then-eq-clause-found : goal.returns-then-eq-clause-found
returns-then-eq-clause-found c =
    is_first c.args.files.now c.loop-i.i c.index-files-i.result _ c.args.name.now (omega arith) c.index-files-i.is
    (ap (λ (f : File). f.0) c.file.view_is) (rw c.as_str.ensures.value at (sym c.if-eq.true ∙ c.eq.ensures)) c.loop-i.invariant

pub loop-i-preserved : goal.loop-i-preserved
loop-i-preserved c =
    take_passed c.args.files.now c.loop-i.i c.index-files-i.result _ c.args.name.now (omega arith) c.index-files-i.is
    (ap (λ (f : File). f.0) c.file.view_is) (rw c.as_str.ensures.value at (sym c.if-eq.false ∙ c.eq.ensures)) c.loop-i.invariant
