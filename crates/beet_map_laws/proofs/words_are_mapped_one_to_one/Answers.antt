use Rattle.beet_map_laws.proofs.Images.{image, source}
use Rattle.beet_map_laws.proofs.words_are_mapped_one_to_one.Goals as goal

pub returns-clause-image : goal.returns-clause-image
returns-clause-image c = λ next most inputs wires deals wanted me w w' words law two enough.
    image next most inputs wires deals wanted law me w w' two words enough

pub returns-clause-source : goal.returns-clause-source
returns-clause-source c = λ next most inputs wires deals wanted me w w' words' law two enough.
    source next most inputs wires deals wanted law me w w' two words' enough
