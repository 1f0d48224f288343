-- How three servers with their ends begin, and what is known once they have ended.
use Rattle.std.proofs.Common.{◌≡◌, ℕ, List, true, sym, refl, ap, subst, ◌∙◌}
use Rattle.beet_field.specs.Trio.{member}
use Rattle.beet_field.specs.declared.point.Point.{Point}
use Rattle.beet_field.specs.declared.trio.Trio.{Trio}
use Rattle.beet_gates.specs.declared.Batch.{Batch}
use Rattle.beet_round.specs.Sides.{peer}
use Rattle.beet_round.specs.declared.sides.Side.TheVariants.{Low, High}
use Rattle.beet_server.specs.Answers.{Keeps}
use Rattle.beet_server.specs.Cores.{AreFresh, Core, has_ended, setup_of}
use Rattle.beet_server.specs.Lockstep.{HaveEnded, IsAtRound}
use Rattle.beet_server.proofs.Beginning.{fresh-stand}
use Rattle.beet_server.proofs.Rounds.{by_point}
use Rattle.beet_link.specs.Ends.{LinkEnd}
use Rattle.beet_link.specs.Streams.{link_at, rounds_from}
use Rattle.beet_station.specs.declared.station.Station.{Station}
use Rattle.beet_station.specs.Stations.{AreEnded, IsTied}

module _ {S : Type 0} (next : S → ℕ → List ℕ → Batch) (inputs most : S → ℕ) where
  -- a fresh server with ends that have moved nothing
  pub begins : {Place : Type 0} (start : Trio (Core S)) → AreFresh next inputs start → (s : Point) (x : Station S Place)
      {core : Core S} {to_low to_high from_low from_high : LinkEnd} →
      x ≡ record { core = core; to_low = to_low; to_high = to_high; from_low = from_low; from_high = from_high } → core ≡ member start s →
      to_low ≡ link_at next inputs most start s (peer s Low) 0 → to_high ≡ link_at next inputs most start s (peer s High) 0 →
      from_low ≡ link_at next inputs most start (peer s Low) s 0 → from_high ≡ link_at next inputs most start (peer s High) s 0 →
      IsTied next inputs most start s x
  begins start fresh s x made fresh_one to_low to_high from_low from_high =
      let stand = fresh-stand next inputs most start fresh s in
      let is : x.core ≡ member start s = ap (λ y. y.core) made ∙ fresh_one in
      let none : 0 ≡ x.core.round = sym (ap (λ c. c.round) is ∙ stand.round) in
      record {
        stands = subst (λ r. IsAtRound next (setup_of next inputs start) r s x.core) none
            (subst (λ (c : Core S). IsAtRound next (setup_of next inputs start) 0 s c) (sym is) stand);
        keeps = record {
          me = ap (λ c. c.me) is;
          script = ap (λ c. c.script) is;
          masks = ap (λ c. c.masks.words) is;
          coefficients = ap (λ c. c.coefficients.words) is;
        };
        to_low = ap (λ y. y.to_low) made ∙ to_low ∙ ap (link_at next inputs most start s (peer s Low)) none;
        to_high = ap (λ y. y.to_high) made ∙ to_high ∙ ap (link_at next inputs most start s (peer s High)) none;
        from_low = ap (λ y. y.from_low) made ∙ from_low ∙ ap (link_at next inputs most start (peer s Low) s) none;
        from_high = ap (λ y. y.from_high) made ∙ from_high ∙ ap (link_at next inputs most start (peer s High) s) none;
      }

  -- three servers that have ended in threads are as after lockstep
  pub all-ended : (start end : Trio (Core S)) → AreFresh next inputs start → AreEnded next inputs most start end →
      HaveEnded next inputs most start end
  all-ended start end fresh ended =
      let keeps : (s : Point) → Keeps (member start s) (member end s) =
      by_point (λ s. Keeps (member start s) (member end s)) ended.one.keeps ended.two.keeps ended.three.keeps in
      record {
        ended = by_point (λ s. IsAtRound next (setup_of next inputs start) (rounds_from next inputs most start) s
            (member end s)) ended.one.stands ended.two.stands ended.three.stands;
        at_end = by_point (λ s. has_ended next (member end s) ≡ true) ended.one.over ended.two.over ended.three.over;
        script = λ s. (keeps s).script
            ∙ by_point (λ s. (member start s).script ≡ start.one.script) refl fresh.script_two fresh.script_three s;
        masks = λ s. (keeps s).masks;
        coefficients = λ s. (keeps s).coefficients;
      }
