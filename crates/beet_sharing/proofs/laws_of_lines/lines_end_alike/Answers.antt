use Rattle.beet_sharing.proofs.Rounds.{ends-alike, wires-alike}
use Rattle.beet_sharing.proofs.laws_of_lines.lines_end_alike.Goals as goal

pub returns : goal.returns
returns c = record {
  rounds = λ o bounds most values slopes law lines. (ends-alike o bounds most values slopes law lines).0;
  opened = λ o bounds most values slopes law lines. (ends-alike o bounds most values slopes law lines).1;
  wires = wires-alike;
}
