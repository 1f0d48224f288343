-- The record of the calls of a shelf or a desk, and how the logic stores it.
use Rattle.std.specs.Prelude.{◌≡◌, ℕ, ◌==◌, List, [], Bool, true, false, if◌then◌else◌, Option, Some, None, Result, Ok}
use Rattle.std.specs.Prelude.{Err, refl}
use Rattle.std.specs.Coded.{Coded, code_by, coded×, coded_ℕ, coded_bool, coded_list, coded_option, coded_result}
use Rattle.beet_store.specs.Files.{Fetch, FetchAnswer, Bytes, Longer, Nothing}
use Rattle.beet_store.specs.Desks.{DeskCall, Put, Say, Done}
use Rattle.beet_store.specs.declared.desk.PutFault.TheVariants.{Failed, OutOfMemory}

-- the calls so far, in order: the fetches of a shelf, and the calls of a desk
pub record Recorded : Type 0 where
  pub fetches : List Fetch
  pub calls : List DeskCall

-- no call was made
abbrev pub none_recorded : Recorded
none_recorded = record { fetches = []; calls = [] }

-- an answer as a number, and back
abbrev done_number : Done → ℕ
done_number (Ok done) = 0
done_number (Err Failed) = 1
done_number (Err OutOfMemory) = 2

abbrev done_at : ℕ → Done
done_at n = if n == 0 then Ok tt else if n == 1 then Err Failed else Err OutOfMemory

-- a call as a tuple: whether it is a put, the name, the bytes, the answer
abbrev CallParts : Type 0
CallParts = Bool × (List ℕ × (List ℕ × ℕ))

abbrev to_parts : DeskCall → CallParts
to_parts (Put name bytes done) = (true, (name, (bytes, done_number done)))
to_parts (Say bytes done) = (false, ([], (bytes, done_number done)))

abbrev from_parts : CallParts → DeskCall
from_parts p = if p.0 then Put p.1.0 p.1.1.0 (done_at p.1.1.1) else Say p.1.1.0 (done_at p.1.1.1)

pub from_parts-to_parts : (call : DeskCall) → from_parts (to_parts call) ≡ call
from_parts-to_parts (Put name bytes (Ok tt)) = refl
from_parts-to_parts (Put name bytes (Err Failed)) = refl
from_parts-to_parts (Put name bytes (Err OutOfMemory)) = refl
from_parts-to_parts (Say bytes (Ok tt)) = refl
from_parts-to_parts (Say bytes (Err Failed)) = refl
from_parts-to_parts (Say bytes (Err OutOfMemory)) = refl

abbrev call_code : Coded DeskCall
call_code = code_by CallParts (coded× coded_bool (coded× (coded_list coded_ℕ) (coded× (coded_list coded_ℕ) coded_ℕ)))
    to_parts from_parts from_parts-to_parts

-- what a fetch answered, as std's types have it: bytes, or maybe a length
abbrev AnswerParts : Type 0
AnswerParts = Result (List ℕ) (Option ℕ)

abbrev answer_parts : FetchAnswer → AnswerParts
answer_parts (Bytes bytes) = Ok bytes
answer_parts (Longer n) = Err (Some n)
answer_parts Nothing = Err None

abbrev answer_at : AnswerParts → FetchAnswer
answer_at (Ok bytes) = Bytes bytes
answer_at (Err (Some n)) = Longer n
answer_at (Err None) = Nothing

pub answer_at-answer_parts : (answer : FetchAnswer) → answer_at (answer_parts answer) ≡ answer
answer_at-answer_parts (Bytes bytes) = refl
answer_at-answer_parts (Longer n) = refl
answer_at-answer_parts Nothing = refl

abbrev answer_code : Coded FetchAnswer
answer_code =
    code_by AnswerParts (coded_result (coded_list coded_ℕ) (coded_option coded_ℕ)) answer_parts answer_at
    answer_at-answer_parts

abbrev fetch_code : Coded Fetch
fetch_code =
    code_by (List ℕ × (ℕ × FetchAnswer)) (coded× (coded_list coded_ℕ) (coded× coded_ℕ answer_code))
    (λ f. (f.name, (f.limit, f.answer))) (λ p. record { name = p.0; limit = p.1.0; answer = p.1.1 }) (λ _. refl)

abbrev pub recorded_code : Coded Recorded
recorded_code =
    code_by (List Fetch × List DeskCall) (coded× (coded_list fetch_code) (coded_list call_code))
    (λ r. (r.fetches, r.calls))
    (λ p. record { fetches = p.0; calls = p.1 }) (λ _. refl)
