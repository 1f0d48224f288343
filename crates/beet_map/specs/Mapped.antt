-- When the numbers that are drawn in a second world show one server what those of the first do.
use Rattle.std.specs.Prelude.{◌≡◌, ◌≢◌, ◌<◌, ◌≤◌, ℕ, List, length, slice_index}
use Rattle.beet_field.specs.Field.{add_of, mul_of, sub_of}
use Rattle.beet_field.specs.Trio.{member}
use Rattle.beet_field.specs.declared.point.Point.{Point}
use Rattle.beet_field.specs.declared.point.Point.TheVariants.{One, Two, Three}
use Rattle.beet_field.specs.declared.trio.Trio.{Trio}
use Rattle.beet_words.specs.Words.{IsWord, ones_in}
use Rattle.beet_gates.specs.declared.Batch.{Batch}
use Rattle.beet_gates.specs.Draws.{draws_in}
use Rattle.beet_sharing.specs.Runs.{Setup, HasRounds, coming, message, number_drawn, numbers_of, rounds_among}
use Rattle.beet_sharing.specs.Runs.{secret_hidden, shared_at, standing_at}
use Rattle.beet_map.specs.Secrets.{Secrets, begin_in}

-- the number whose product with the server's number is 1
abbrev pub inverse_of : Point → ℕ
inverse_of One = 1
inverse_of Two = 1152921504606846976
inverse_of Three = 1537228672809129301

-- a number that hid x, moved by what x is more than y, divided by the server's number
abbrev pub moved_of : Point → ℕ → ℕ → ℕ → ℕ
moved_of s number x y = add_of number (mul_of (sub_of x y) (inverse_of s))

-- the k-th number that a server draws in round t
abbrev pub number_at : Setup → ℕ → Point → ℕ → ℕ
number_at o t j k = number_drawn o (standing_at o t) j k

-- what this number hides
abbrev pub secret_at : Setup → ℕ → Point → ℕ → ℕ
secret_at o t j k = secret_hidden o (standing_at o t) (coming o t).act j k

-- the numbers of two setups, in a run of so many rounds: those of server me are the same, and so are those that are not
-- drawn; each number that another server draws is moved by what it hides
pub record GateMapped (me : Point) (rounds : ℕ) (first second : Setup) : Type 0 where
  pub own : member second.numbers me ≡ member first.numbers me
  pub lengths : (j : Point) → length (member second.numbers j) ≡ length (member first.numbers j)
  pub moves : (j : Point) → j ≢ me → (t k : ℕ) → t < rounds → k < draws_in (coming first t).act →
      number_at second t j k ≡ moved_of me (number_at first t j k) (secret_at first t j k) (secret_at second t j k)
  pub rest : (j : Point) → j ≢ me → (n : ℕ) → (shared_at first rounds).drawn ≤ n →
      slice_index (member second.numbers j) n ≡ slice_index (member first.numbers j) n

-- the run with these coefficient words
abbrev pub run_with : (ℕ → List ℕ → Batch) → Secrets → Trio (List ℕ) → Setup
run_with next w words = begin_in next w (numbers_of words)

-- the coefficient words of two worlds, of a script of at most so many rounds: the words that are all ones stand at the
-- same places, those of server me are the same, and the accepted ones are mapped over the rounds of the first run
pub record WordsMapped (next : ℕ → List ℕ → Batch) (most : ℕ) (me : Point) (w w' : Secrets)
    (words words' : Trio (List ℕ)) : Type 0 where
  pub places : (j : Point) → ones_in (member words' j) ≡ ones_in (member words j)
  pub own : member words' me ≡ member words me
  pub numbers : GateMapped me (rounds_among (run_with next w words) most) (run_with next w words)
      (run_with next w' words')

-- both runs have so many rounds; the server has the same points after each batch, and with the lets of the next, and
-- gets the same messages in each; both open the same numbers
pub record LooksAlike (me : Point) (rounds : ℕ) (first second : Setup) : Type 0 where
  pub first_ends : HasRounds first rounds
  pub second_ends : HasRounds second rounds
  pub points : (t : ℕ) → t ≤ rounds → member (shared_at second t).wires me ≡ member (shared_at first t).wires me
  pub standing : (t : ℕ) → t ≤ rounds → member (standing_at second t).wires me ≡ member (standing_at first t).wires me
  pub opened : (t : ℕ) → t ≤ rounds → (shared_at second t).opened ≡ (shared_at first t).opened
  pub messages : (t : ℕ) → t < rounds → (from : Point) → message second from me t ≡ message first from me t

-- the runs of two worlds with these words look alike
abbrev pub WordsLookAlike : (ℕ → List ℕ → Batch) → ℕ → Point → Secrets → Secrets → Trio (List ℕ) →
    Trio (List ℕ) → Type 0
WordsLookAlike next most me w w' words words' =
    LooksAlike me (rounds_among (run_with next w words) most) (run_with next w words) (run_with next w' words')

abbrev pub AreWords : Trio (List ℕ) → Type 0
AreWords words = (j : Point) (n : ℕ) → IsWord (slice_index (member words j) n)

-- no other words of the second world go with those of the first
abbrev pub IsOnlyImage : (ℕ → List ℕ → Batch) → ℕ → Point → Secrets → Secrets → Trio (List ℕ) → Trio (List ℕ) → Type 0
IsOnlyImage next most me w w' words words' = (e : Trio (List ℕ)) → WordsMapped next most me w w' words e → e ≡ words'

-- and no other words of the first world go with those of the second
abbrev pub IsOnlySource : (ℕ → List ℕ → Batch) → ℕ → Point → Secrets → Secrets → Trio (List ℕ) → Trio (List ℕ) → Type 0
IsOnlySource next most me w w' words words' =
    (e : Trio (List ℕ)) → AreWords e → WordsMapped next most me w w' e words' → e ≡ words
