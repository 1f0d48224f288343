-- The scripts for tests keep the law.
use Rattle.std.proofs.Common.{[], rules}
use Rattle.beet_gates.specs.Scripts.{LawFrom, bounds_of, start_of}
use Rattle.beet_samples.specs.Samples.{batch_of, inputs_of, needs}
use Rattle.beet_samples.specs.declared.Sample.{Sample}
use Rattle.beet_samples.specs.declared.Sample.TheVariants.{Product, SecondBits, Inputs}

pub sample-law : (s : Sample) →
    LawFrom (batch_of s) (bounds_of (needs s).wires (needs s).masks (needs s).secrets) (needs s).rounds
    (start_of (inputs_of s)) []
sample-law Product = search rules
sample-law SecondBits = search rules
sample-law Inputs = search rules
