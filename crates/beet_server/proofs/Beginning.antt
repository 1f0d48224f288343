-- Three fresh cores stand at round 0 of their run, and what has passed all rounds has ended.
use Rattle.std.proofs.Common.{◌≡◌, ℕ, List, [], true, false, inl, inr, arith, refl, sym, ◌∙◌, ap, subst, nat_lt}
use Rattle.std.specs.Prelude.{take}
use Rattle.std.proofs.lemmas.Bool.{cases_eq}
use Rattle.std.proofs.lemmas.Bool.Decides.{nat_tests}
use Rattle.beet_field.specs.Trio.{member}
use Rattle.beet_field.specs.declared.point.Point.{Point}
use Rattle.beet_field.specs.declared.point.Point.TheVariants.{One, Two, Three}
use Rattle.beet_field.specs.declared.trio.Trio.{Trio}
use Rattle.beet_words.specs.Words.{accepted}
use Rattle.beet_gates.specs.Scripts.{LawFrom, Standing, start_of}
use Rattle.beet_gates.specs.declared.Batch.{Batch}
use Rattle.beet_server.specs.Answers.{Keeps}
use Rattle.beet_server.specs.Cores.{AreFresh, Core, IsFresh, has_ended, setup_of, unpassed}
use Rattle.beet_delivery.specs.Events.{all_delivered, nothing}
use Rattle.beet_server.specs.Fits.{Fits, IsRound}
use Rattle.beet_gates.specs.Clear.{is_end}
use Rattle.beet_sharing.specs.Runs.{HasRounds, Setup, coming, rounds_among}
use Rattle.beet_server.proofs.Passing.{coming_is, elsewhere, ended_at, round_most}
use Rattle.beet_sharing.proofs.Rounds.{lawful-rounds}
use Rattle.beet_server.proofs.Starting.{begins}
use Rattle.beet_server.specs.Lockstep.{AreAtRound, HaveEnded, IsAtRound, MayPass}
use Rattle.beet_server.proofs.Rounds.{before-round, by_point}

none_before : (r : ℕ) → nat_lt r 0 ≡ false
none_before r = grind (arith, nat_tests)

module _ {S : Type 0} (next : S → ℕ → List ℕ → Batch) (inputs most : S → ℕ) where
  -- a fresh core fits a setup that has its inputs, words and numbers
  pub fresh-fits : (o : Setup) (s : Point) (c : Core S) → c.me ≡ s → IsFresh next inputs c → o.next ≡ next c.script →
      member o.inputs s ≡ take (inputs c.script) c.wires → member o.masks s ≡ c.masks.words →
      member o.numbers s ≡ accepted c.coefficients.words →
      Fits next o nothing c
  fresh-fits o s c name is script ins masks numbers =
      subst (λ (k : Core S). Fits next o nothing k) (sym is)
      (begins next c.me c.script (take (inputs c.script) c.wires) (unpassed next c.masks.words)
      (unpassed next c.coefficients.words) refl refl o (record {
        has_script = script;
        has_inputs = ap (member o.inputs) name ∙ ins;
        has_words = ap (member o.masks) name ∙ masks;
        has_numbers = ap (member o.numbers) name ∙ numbers;
      }))

  fresh-at : (o : Setup) (s : Point) (c : Core S) → c.me ≡ s → IsFresh next inputs c → Fits next o nothing c → IsAtRound next o 0 s c
  fresh-at o s c name is fits = record {
    name = name;
    fits = elsewhere next o nothing (all_delivered 0) c (λ side r. before-round c.me side 0 r ∙ none_before r) fits;
    round = ap (λ k. k.round) is;
    handed = ap (λ k. k.handed) is;
  }

  pub fresh-all-fit : (t : Trio (Core S)) → AreFresh next inputs t → (s : Point) → Fits next (setup_of next inputs t) nothing (member t s)
  fresh-all-fit t f =
      let o = setup_of next inputs t in
      by_point (λ s. Fits next o nothing (member t s))
      (fresh-fits o One t.one f.one.0 f.one.1 refl refl refl refl)
      (fresh-fits o Two t.two f.two.0 f.two.1 (ap next (sym f.script_two)) refl refl refl)
      (fresh-fits o Three t.three f.three.0 f.three.1 (ap next (sym f.script_three)) refl refl refl)

  -- three fresh cores stand at round 0
  pub fresh-stand : (t : Trio (Core S)) → AreFresh next inputs t → AreAtRound next (setup_of next inputs t) 0 t
  fresh-stand t f =
      let o = setup_of next inputs t in
      let all = fresh-all-fit t f in
      by_point (λ s. IsAtRound next o 0 s (member t s))
      (fresh-at o One t.one f.one.0 f.one.1 (all One))
      (fresh-at o Two t.two f.two.0 f.two.1 (all Two))
      (fresh-at o Three t.three f.three.0 f.three.1 (all Three))

  -- where the first has not ended, the round is one of the run
  pub goes-on : (o : Setup) (t : ℕ) (cores : Trio (Core S)) → AreAtRound next o t cores → has_ended next cores.one ≡ false → IsRound o t
  goes-on o t cores stand on k le = elim (cases_eq k t) [
    | inl last ↦ rw last (sym (ap (λ r. is_end (coming o r).act) (stand One).round)
        ∙ sym (coming_is next o (all_delivered t) cores.one (stand One).fits) ∙ on)
    | inr before ↦ (stand One).fits.rounds k (omega (arith, le, before, (stand One).round))
  ]

  pub may-pass : (o : Setup) (t : ℕ) (cores : Trio (Core S)) → AreAtRound next o t cores →
      has_ended next cores.one ≡ false → MayPass next cores
  may-pass o t cores stand on = record {
    o = o;
    t = t;
    is_round = goes-on o t cores stand on;
    stand = stand;
  }

  -- cores that have passed as many rounds as the run has have ended
  pub have-ended : (bounds : Standing) (start end : Trio (Core S)) (t : ℕ) → AreFresh next inputs start →
      LawFrom (next start.one.script) bounds (most start.one.script) (start_of (inputs start.one.script)) [] →
      AreAtRound next (setup_of next inputs start) t end → t ≡ rounds_among (setup_of next inputs start) (most start.one.script) →
      ((s : Point) → Keeps (member start s) (member end s)) → HaveEnded next inputs most start end
  have-ended bounds start end t f law stand is keeps =
      let o = setup_of next inputs start in
      let rounds = rounds_among o (most start.one.script) in
      let h : HasRounds o rounds = (lawful-rounds o bounds (most start.one.script) (inputs start.one.script) law).0 in
      let ended : AreAtRound next o rounds end = subst (λ (r : ℕ). AreAtRound next o r end) is stand in
      record {
        ended = ended;
        at_end = λ s. (ended_at next o (all_delivered rounds) (member end s) rounds h (ended s).fits).1 (ended s).round;
        script = λ s. (keeps s).script ∙ by_point (λ s. (member start s).script ≡ start.one.script) refl f.script_two f.script_three s;
        masks = λ s. (keeps s).masks;
        coefficients = λ s. (keeps s).coefficients;
      }

  -- the rounds of the run are passed where the first core has ended
  pub at-the-end : (bounds : Standing) (start end : Trio (Core S)) (t : ℕ) →
      LawFrom (next start.one.script) bounds (most start.one.script) (start_of (inputs start.one.script)) [] →
      AreAtRound next (setup_of next inputs start) t end → has_ended next end.one ≡ true →
      t ≡ rounds_among (setup_of next inputs start) (most start.one.script)
  at-the-end bounds start end t law stand over =
      let o = setup_of next inputs start in
      let rounds = rounds_among o (most start.one.script) in
      let h : HasRounds o rounds = (lawful-rounds o bounds (most start.one.script) (inputs start.one.script) law).0 in
      sym (stand One).round ∙ (ended_at next o (all_delivered t) end.one rounds h (stand One).fits).0 over

  -- and where as many are passed as the script may have
  pub at-the-most : (bounds : Standing) (start end : Trio (Core S)) (t : ℕ) →
      LawFrom (next start.one.script) bounds (most start.one.script) (start_of (inputs start.one.script)) [] →
      AreAtRound next (setup_of next inputs start) t end → t ≡ most start.one.script →
      t ≡ rounds_among (setup_of next inputs start) (most start.one.script)
  at-the-most bounds start end t law stand over =
      let o = setup_of next inputs start in
      let rounds = rounds_among o (most start.one.script) in
      let l = lawful-rounds o bounds (most start.one.script) (inputs start.one.script) law in
      let within = round_most next o (all_delivered t) end.one rounds l.0 (stand One).fits in
      omega (arith, within, l.1, over, (stand One).round)
