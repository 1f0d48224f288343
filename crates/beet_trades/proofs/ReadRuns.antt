-- A run goes on the words that are read for it.
use Rattle.std.proofs.Common.{◌≡◌, ◌≤◌, ◌<◌, ◌+◌, ℕ, [], take, length, sym, ap, ◌∙◌, arith}
use Rattle.beet_field.specs.Trio.{member}
use Rattle.beet_field.specs.declared.point.Point.{Point}
use Rattle.beet_words.specs.Bundles.{Words}
use Rattle.beet_gates.specs.Scripts.{LawFrom, Standing, bounds_of, start_of}
use Rattle.beet_gates.proofs.EachFacts.{each-same}
use Rattle.beet_round.specs.Sides.{peer}
use Rattle.beet_round.specs.declared.sides.Side.TheVariants.{Low, High}
use Rattle.beet_sharing.specs.Runs.{HasRounds, Setup, coming, message, rounds_among, shared_at, standing_at}
use Rattle.beet_sharing.specs.Seen.{SeenRun, round_seen, rounds_seen, run_seen}
use Rattle.beet_sharing.proofs.Lined.{member-each}
use Rattle.beet_sharing.proofs.Rounds.{among-rounds}
use Rattle.beet_sharing.proofs.SameRuns.{UseSame, ends-same, message-same, run-same}
use Rattle.beet_sharing.proofs.Walk.{Walks, deals-fit, draws-fit, walks}
use Rattle.beet_mapped.specs.Trades.{Trade, rounds_in, setup_in}
use Rattle.beet_mapped.proofs.WorldFacts.{seen_in}
use Rattle.beet_trades.specs.Enough.{HasEnough, Wants, read_words}
use Rattle.beet_masking.specs.Masks.{with_spare}
use Rattle.beet_trades.proofs.Drawn.{masks-read, numbers-read}

-- what is seen of a run, with the words that are read
abbrev pub seen_read : Wants → SeenRun → SeenRun
seen_read wants run = record {
  masks = take wants.masks run.masks;
  coefficients = take (with_spare wants.coefficients) run.coefficients;
  rounds = run.rounds;
}

-- a lawful trade whose inputs are those of the words that are read
pub record Reads (trade : Trade) (wants : Wants) (words : Words) : Type 0 where
  pub wires : ℕ
  pub count : ℕ
  pub parties : ℕ
  pub law : LawFrom trade.next (bounds_of wires wants.masks wants.coefficients) trade.most (start_of count) []
  pub long : (i : Point) → length (member (trade.inputs words.bidders) i) ≡ count
  pub same : trade.inputs (read_words wants words).bidders ≡ trade.inputs words.bidders
  pub enough : HasEnough wants parties words

module _ (trade : Trade) (wants : Wants) (words : Words) (r : Reads trade wants words) where
  abbrev whole : Setup
  whole = setup_in trade words

  abbrev read : Setup
  read = setup_in trade (read_words wants words)

  -- the same setup but for the words that are not read
  abbrev shorter : Setup
  shorter = record { next = whole.next; inputs = whole.inputs; masks = read.masks; numbers = read.numbers }

  is-shorter : read ≡ shorter
  is-shorter = λ x. record { next = trade.next; inputs = r.same x; masks = read.masks; numbers = read.numbers }

  abbrev bounds : Standing
  bounds = bounds_of r.wires wants.masks wants.coefficients

  module _ (rounds : ℕ) (runs : HasRounds whole rounds) where
    walk : (t : ℕ) → t ≤ rounds → Walks whole bounds trade.most t
    walk t le = walks whole bounds trade.most r.count r.law r.long t (λ k lt. runs.goes k (omega arith))

    -- the script has at least so many rounds
    pub rounds-few : rounds ≤ trade.most
    rounds-few = (walk rounds (omega arith)).few

    uses : (t : ℕ) → t < rounds → shared_at shorter t ≡ shared_at whole t →
        UseSame whole.masks read.masks whole.numbers read.numbers (standing_at whole t) (coming whole t).act
    uses t lt same =
        let w = walk t (omega arith) in
        let drawn = draws-fit whole bounds trade.most t w in
        let dealt = deals-fit whole bounds trade.most t w in
        record {
          word = λ j some. masks-read wants.masks words.masks j (shared_at whole t).dealt (omega (arith, dealt, some));
          number = λ j k below. numbers-read wants r.parties words r.enough j ((shared_at whole t).drawn + k) (omega (arith, drawn, below));
        }

    pub rounds-read : rounds_in trade (read_words wants words) ≡ rounds
    rounds-read =
        ap (λ o. rounds_among o trade.most) is-shorter
        ∙ among-rounds shorter rounds trade.most
        (ends-same whole.next whole.inputs whole.masks read.masks whole.numbers read.numbers rounds uses runs)
        rounds-few

    pub run-read : (t : ℕ) → t ≤ rounds → shared_at read t ≡ shared_at whole t
    run-read t le =
        ap (λ o. shared_at o t) is-shorter
        ∙ run-same whole.next whole.inputs whole.masks read.masks whole.numbers read.numbers rounds uses t le

    pub messages-read : (t : ℕ) → t < rounds → (from to : Point) → message read from to t ≡ message whole from to t
    messages-read t lt from to =
        ap (λ o. message o from to t) is-shorter
        ∙ message-same whole.next whole.inputs whole.masks read.masks whole.numbers read.numbers rounds uses t lt
        from to

    -- a server sees the same, but for the words that are not read
    pub run-seen-read : (s : Point) → seen_in trade (read_words wants words) s
        ≡ seen_read wants (run_seen whole s rounds (member words.masks s) (member words.coefficients s))
    run-seen-read s = λ x. record {
      masks = member-each (take wants.masks) words.masks s x;
      coefficients = member-each (take (with_spare wants.coefficients)) words.coefficients s x;
      rounds = (
          ap (rounds_seen read s) rounds-read
          ∙ each-same (round_seen read s) (round_seen whole s) rounds
          (λ t lt y. (messages-read t lt (peer s Low) s y, messages-read t lt (peer s High) s y))
          ) x;
    }

-- what is seen of two runs is the same of the words that are read if it is the same of all
pub seen-read-same : (first second : Trade) (wants : Wants) (words words' : Words) (s : Point) → Reads first wants words →
    Reads second wants words' →
    HasRounds (setup_in first words) (rounds_in first words) → HasRounds (setup_in second words') (rounds_in second words') →
    seen_in second words' s ≡ seen_in first words s →
    seen_in second (read_words wants words') s ≡ seen_in first (read_words wants words) s
seen-read-same first second wants words words' s r r' ends ends' same =
    run-seen-read second wants words' r' (rounds_in second words') ends' s ∙ ap (seen_read wants) same
    ∙ sym (run-seen-read first wants words r (rounds_in first words) ends s)
