-- What a server has received.
use Rattle.std.specs.Prelude.{ℕ, List, Option, option_map}
use Rattle.beet_five_server.specs.Answers.{Core}
use Rattle.beet_five_server.specs.Mails.{Mailbag, cell}

-- the numbers of a sender in a round, if its message is there
abbrev pub numbers_from : Mailbag → ℕ → ℕ → Option (List ℕ)
numbers_from b from round = option_map (λ m. m.numbers.items) (cell b.places round from)

abbrev pub received_from : {S : Type 0} → Core S → ℕ → ℕ → Option (List ℕ)
received_from c from round = numbers_from c.mail from round
