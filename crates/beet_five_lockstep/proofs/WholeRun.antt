-- Five servers that have passed some rounds of a run, or all.
use Rattle.std.proofs.Common.{◌≡◌, ◌-◌, ◌∷◌, [], ℕ, true, false, List}
use Rattle.std.proofs.Common.{length, Some, slice_get, sym, refl, ap, subst, ◌∙◌, inl, inr, arith}
use Rattle.std.proofs.lemmas.Bool.{cases_eq}
use Rattle.beet_gates.specs.Clear.{is_end}
use Rattle.beet_gates.specs.Scripts.{LawFrom, Standing, start_among}
use Rattle.beet_gates.specs.declared.Batch.{Batch}
use Rattle.beet_delivery.specs.Networks.{all_delivered}
use Rattle.beet_weights.specs.Quadratics.{IsServer}
use Rattle.beet_linear_sharing.specs.Runs.{Setup}
use Rattle.beet_linear_sharing.specs.Schemes.{five_servers}
use Rattle.beet_linear_sharing.proofs.Ends.{lawful-rounds}
use Rattle.beet_five_server.specs.Answers.{Core}
use Rattle.beet_five_server.specs.Cores.{has_ended}
use Rattle.beet_five_server.specs.Fits.{IsRound}
use Rattle.beet_five_server.specs.Network.{five}
use Rattle.beet_five_server.specs.Runs.{HasRounds, coming}
use Rattle.beet_five_server.proofs.Passing.{ended-at, round-most}
use Rattle.beet_five_server.proofs.RunNames.{rounds_among}
use Rattle.beet_five_server.proofs.Standing.{coming-is}
use Rattle.beet_five_lockstep.specs.FiveLockstep.{AreAtRound, HaveEnded, IsAtRound}

-- the first of five
pub first-core : {S : Type 0} → (cores : List (Core S)) → length cores ≡ 5 → (c : Core S) × (slice_get cores 0 ≡ Some c)
first-core [] e = absurd (omega (arith, e))
first-core (c ∷ cores) e = (c, refl)

module _ {S : Type 0} (next : S → ℕ → List ℕ → Batch) (o : Setup) (script : S) (t : ℕ) (cores : List (Core S))
    (stand : AreAtRound next o script t cores) where
  one-is : IsServer 1
  one-is = (omega arith, omega arith)

  pub first-stands : (c : Core S) → slice_get cores 0 ≡ Some c → IsAtRound next o script t 1 c
  first-stands c at = stand.stand 1 one-is c at

  -- what comes at the first is what comes in the run
  comes-to : (c : Core S) → slice_get cores 0 ≡ Some c → is_end (coming o t).act ≡ has_ended next c.work
  comes-to c at =
      let a = first-stands c at in
      ap (λ r. is_end (coming o r).act) (sym a.round)
      ∙ ap (λ (b : Batch). is_end b.act)
      (sym (coming-is next o (all_delivered five t) c.work c.mail (subst IsServer (sym a.name) one-is) a.fits.stands))

  -- if the first has not ended, the round is one of the run
  pub goes-on : (c : Core S) → slice_get cores 0 ≡ Some c → has_ended next c.work ≡ false → IsRound o t
  goes-on c at on k le = elim (cases_eq k t) [
    | inl last ↦ ap (λ r. is_end (coming o r).act) last ∙ comes-to c at ∙ on
    | inr before ↦ let a = first-stands c at in a.fits.rounds k (omega (arith, le, before, a.round))
  ]

  -- if these are all rounds of the run, they have ended
  have-ended : HasRounds o t → HaveEnded next o script cores
  have-ended has = record {
    rounds = t;
    has_rounds = has;
    stand = stand;
    ended = λ j server c at.
        let a = stand.stand j server c at in
        (ended-at next o (all_delivered five t) c.work c.mail t has (subst IsServer (sym a.name) server) a.fits).1 a.round;
  }

  -- they are where the first has ended
  pub at-the-end : (c : Core S) → slice_get cores 0 ≡ Some c → has_ended next c.work ≡ true → HaveEnded next o script cores
  at-the-end c at over = have-ended (record {
    ends = comes-to c at ∙ over;
    goes = λ k lt. let a = first-stands c at in a.fits.rounds k (omega (arith, lt, a.round));
  })

  -- and where as many are passed as the script may have
  pub at-the-most : (bounds : Standing) (inputs most : ℕ) → LawFrom (next script) bounds most (start_among 5 inputs) [] → t ≡ most →
      HaveEnded next o script cores
  at-the-most bounds inputs most law all =
      let first = first-core cores stand.count in
      let a = first-stands first.0 first.1 in
      let w = first.0.work in
      let same : next script ≡ o.next = ap next (sym a.has_script) ∙ sym a.fits.script in
      let l = lawful-rounds five_servers o bounds 5 inputs most
      (subst (λ (n : ℕ → List ℕ → Batch). LawFrom n bounds most (start_among 5 inputs) []) same law) in
      let within = round-most next o (all_delivered five t) w first.0.mail (rounds_among o most) l.0
      (subst IsServer (sym a.name) one-is) a.fits in
      let last : rounds_among o most ≡ t = omega (arith, within, l.1, all, a.round) in
      have-ended (subst (HasRounds o) last l.0)
