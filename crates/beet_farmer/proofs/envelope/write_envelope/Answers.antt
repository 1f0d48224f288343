use Rattle.std.proofs.Common.{ap, length, ◌∙◌}
use Rattle.beet_farmer.specs.Envelopes.{envelope_of}
use Rattle.beet_farmer.proofs.EnvelopeAgain.{envelope_of-bytes, envelope-size}
use Rattle.beet_farmer.proofs.envelope.write_envelope.Goals as goal

pub returns-clause-again : goal.returns-clause-again
returns-clause-again c =
    let written = c.in_ok-file.ensures in
    ap (envelope_of c.args.grid.now c.args.envelope.now.server) written.bytes
    ∙ envelope_of-bytes c.args.grid.now c.args.envelope.now written.limits c.requires written.points

pub returns-clause-size : goal.returns-clause-size
returns-clause-size c =
    ap length c.in_ok-file.ensures.bytes ∙ envelope-size c.args.grid.now c.args.envelope.now c.requires
