-- A `World` begins with three fresh cores that have handed out what they had to.
use Rattle.std.proofs.Common.{◌≡◌, ◌<◌, ◌≤◌, ◌*◌, ℕ, List, [], true, false, true≢false, sym, ◌∙◌, ap, subst, arith}
use Rattle.std.proofs.Common.{Vec, Global, length, vec_capacity}
use Rattle.std.proofs.lemmas.List.{length-replicate}
use Rattle.beet_field.specs.Trio.{member}
use Rattle.beet_field.specs.declared.point.Point.{Point}
use Rattle.beet_field.specs.declared.trio.Trio.{Trio}
use Rattle.beet_gates.specs.declared.Batch.{Batch}
use Rattle.beet_gates.specs.Each.{each}
use Rattle.beet_gates.proofs.EachFacts.{each-zero}
use Rattle.beet_round.specs.declared.message.RoundMessage.{RoundMessage}
use Rattle.beet_server.specs.Answers.{Keeps}
use Rattle.beet_server.specs.Cores.{AreFresh, Core, IsFresh, is_quiet, setup_of}
use Rattle.beet_delivery.specs.Events.{Delivered, nothing}
use Rattle.beet_server.specs.Fits.{Fits, messages_from, taken}
use Rattle.beet_sharing.specs.Runs.{HasRounds, Setup, rounds_among}
use Rattle.beet_world.specs.Happens.{HasTakenMessages, HoldsMessages}
use Rattle.beet_world.specs.Marks.{set_of, unmarked}
use Rattle.beet_world.specs.Worlds.{IsWorld, World, sent_by}
use Rattle.beet_server.proofs.Beginning.{fresh-all-fit}
use Rattle.beet_world.proofs.MarkFacts.{set-unmarked}
use Rattle.beet_server.proofs.Rounds.{by_point}

module _ {S : Type 0} (next : S → ℕ → List ℕ → Batch) (inputs most : S → ℕ) where
  -- what is known of a core that has handed out all that it had to
  pub record HasHandedOut (old new : Core S) (sent : List (List RoundMessage)) : Type 0 where
    pub keeps : Keeps old new
    pub quiet : is_quiet next new ≡ true
    pub fits : (o : Setup) (x : Delivered) → Fits next o x old → Fits next o x new
    pub sends : (o : Setup) (x : Delivered) → Fits next o x old → [] ≡ sent_by o old → sent ≡ sent_by o new
    pub going : (o : Setup) (x : Delivered) (rounds : ℕ) → HasRounds o rounds → Fits next o x old →
        (old.handed ≡ true → old.round < rounds) →
        new.handed ≡ true → new.round < rounds

  -- a fresh core has handed out no messages
  pub none-taken : (k : Core S) → IsFresh next inputs k → taken k.round k.handed ≡ 0
  none-taken k is = ap (λ (c : Core S). taken c.round c.handed) is

  -- there is room for what it hands out
  pub has-room : (k : Core S) (sent : Vec (List RoundMessage) Global) → IsFresh next inputs k → sent.items ≡ [] →
      most k.script ≤ vec_capacity sent → HoldsMessages (most k.script) k sent
  has-room k sent is none room =
      let few : length sent.items ≡ 0 = ap length none in
      record { room = room; counted = few ∙ sym (none-taken k is); within = omega (arith, few) }

  -- a core that has taken its messages has handed them out
  pub handed-out : (rounds : ℕ) (old new : Core S) (before after : Vec (List RoundMessage) Global) → before.items ≡ [] →
      HasTakenMessages next rounds old new before after →
      ((o : Setup) (x : Delivered) → Fits next o x old → Fits next o x new) →
      ((o : Setup) (x : Delivered) → Fits next o x old → before.items ≡ sent_by o old → after.items ≡ sent_by o new) →
      ((o : Setup) (x : Delivered) (rounds : ℕ) → HasRounds o rounds → Fits next o x old → (old.handed ≡ true → old.round < rounds) →
      new.handed ≡ true → new.round < rounds) →
      HasHandedOut old new after.items
  handed-out rounds old new before after none took fits sends going = record {
    keeps = took.keeps;
    quiet = took.quiet;
    fits = fits;
    sends = λ o x f e. sends o x f (none ∙ e);
    going = going;
  }

  named : (t : Trio (Core S)) → AreFresh next inputs t → (s : Point) → (member t s).me ≡ s
  named t f = by_point (λ s. (member t s).me ≡ s) f.one.0 f.two.0 f.three.0

  is_fresh : (t : Trio (Core S)) → AreFresh next inputs t → (s : Point) → IsFresh next inputs (member t s)
  is_fresh t f = by_point (λ s. IsFresh next inputs (member t s)) f.one.1 f.two.1 f.three.1

  module _ (start cores : Trio (Core S)) (sent : Trio (List (List RoundMessage))) (f : AreFresh next inputs start)
      (h : HasRounds (setup_of next inputs start) (rounds_among (setup_of next inputs start) (most start.one.script)))
      (out : (s : Point) → HasHandedOut (member start s) (member cores s) (member sent s)) where
    abbrev pub begun : World S
    begun = record { start = start; marks = unmarked (most start.one.script) }

    none_sent : (s : Point) → [] ≡ sent_by (setup_of next inputs start) (member start s)
    none_sent s =
        let none = none-taken (member start s) (is_fresh start f s) in
        sym (ap (each (messages_from (setup_of next inputs start) (member start s).me)) none
        ∙ each-zero (messages_from (setup_of next inputs start) (member start s).me))

    idle : (s : Point) → (member start s).handed ≡ true →
        (member start s).round < rounds_among (setup_of next inputs start) (most start.one.script)
    idle s e = absurd (true≢false (sym e ∙ ap (λ (k : Core S). k.handed) (is_fresh start f s)))

    pub world-begins : IsWorld next inputs most (record { start = start; marks = unmarked (most start.one.script) }) cores sent
    world-begins =
        let o = setup_of next inputs start in
        let fits = fresh-all-fit next inputs most start f in
        let none : set_of (unmarked (most start.one.script)) ≡ nothing = set-unmarked (most start.one.script) in
        record {
          fresh = f;
          standing = λ s. record {
            name = (out s).keeps.me ∙ named start f s;
            fits = subst (λ (x : Delivered). Fits next o x (member cores s)) (sym none) ((out s).fits o nothing (fits s));
            quiet = (out s).quiet;
            going = (out s).going o nothing (rounds_among o (most start.one.script)) h (fits s) (idle s);
          };
          sent_all = λ s. (out s).sends o nothing (fits s) (none_sent s);
          events = [];
          reached = none;
          room = length-replicate (6 * most start.one.script) false;
        }
