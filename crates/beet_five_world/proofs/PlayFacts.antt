-- Servers that a list of events leads on.
use Rattle.std.proofs.Common.{◌≡◌, ◌∷◌, [], ℕ, List, ap, false, if◌then◌else◌, inl, inr, refl, subst, sym}
use Rattle.std.proofs.lemmas.Bool.{cases_Bool}
use Rattle.beet_delivery.specs.Networks.{Delivered, Triple, is_sent, with_triple}
use Rattle.beet_delivery.proofs.NetworkFacts.{deliver_sent}
use Rattle.beet_gates.specs.declared.Batch.{Batch}
use Rattle.beet_linear_sharing.specs.Runs.{Setup}
use Rattle.beet_five_server.specs.Network.{five}
use Rattle.beet_five_server.proofs.Networking.{five-is}
use Rattle.beet_five_world.specs.Members.{AllFit, LeadAll, Leads, Seen, sent_in}

-- in a run in which the first servers stand, these stand, and what the rest that is sent leads to from them, the whole
-- that is sent leads to from the first
pub record StandsOn {S : Type 0} (next : S → ℕ → List ℕ → Batch) (script : S) (o : Setup) (rounds : ℕ) (x : Delivered ℕ)
    (first here : List (Seen S)) (rest whole : List (Triple ℕ)) : Type 0 where
  pub delivered : Delivered ℕ
  pub fit : AllFit next script o rounds delivered here
  pub leads : (new : List (Seen S)) → LeadAll next here (sent_in rounds delivered rest) new →
      LeadAll next first (sent_in rounds x whole) new

-- the front of a list led from the first servers to these, and the rest is left
pub record LeadsOn {S : Type 0} (next : S → ℕ → List ℕ → Batch) (first here : List (Seen S))
    (rest whole : List (Triple ℕ)) : Type 0 where
  pub leads : (new : List (Seen S)) → LeadAll next here rest new → LeadAll next first whole new
  pub stands : (script : S) (o : Setup) (rounds : ℕ) (x : Delivered ℕ) → AllFit next script o rounds x first →
      StandsOn next script o rounds x first here rest whole

module _ {S : Type 0} (next : S → ℕ → List ℕ → Batch) (first : List (Seen S)) (whole : List (Triple ℕ)) where
  pub leads-none : LeadsOn next first first whole whole
  leads-none = record {
    leads = λ new lead. lead;
    stands = λ script o rounds x f. record { delivered = x; fit = f; leads = λ new lead. lead };
  }

  -- one event more
  pub leads-more : (here after : List (Seen S)) (e : Triple ℕ) (es : List (Triple ℕ)) →
      LeadsOn next first here (e ∷ es) whole → Leads next here e after →
      ((script : S) (o : Setup) (rounds : ℕ) (x : Delivered ℕ) → AllFit next script o rounds x here →
      is_sent five rounds x e ≡ false → after ≡ here) →
      LeadsOn next first after es whole
  leads-more here after e es on lead unchanged = record {
    leads = λ new rest. on.leads new (after, lead, rest);
    stands = λ script o rounds x f.
        let at = on.stands script o rounds x f in
        let y = at.delivered in
        let more = e ∷ sent_in rounds (with_triple five y e) es in
        let less = sent_in rounds y es in
        elim (cases_Bool (is_sent five rounds y e)) [
          | inl sent ↦
              let all : sent_in rounds y (e ∷ es) ≡ more = ap (λ b. if b then more else less) sent in
              record {
                delivered = with_triple five y e;
                fit = subst (λ (z : Delivered ℕ). AllFit next script o rounds z after) (deliver_sent five-is rounds y e sent)
                    (lead script o rounds y at.fit);
                leads = λ new rest. at.leads new
                    (subst (λ (l : List (Triple ℕ)). LeadAll next here l new) (sym all) (after, lead, rest));
              }
          | inr unsent ↦
              let same : after ≡ here = unchanged script o rounds y at.fit unsent in
              let all : sent_in rounds y (e ∷ es) ≡ less = ap (λ b. if b then more else less) unsent in
              record {
                delivered = y;
                fit = subst (λ (ms : List (Seen S)). AllFit next script o rounds y ms) (sym same) at.fit;
                leads = λ new rest. at.leads new
                    (subst (λ (l : List (Triple ℕ)). LeadAll next here l new) (sym all)
                    (subst (λ (ms : List (Seen S)). LeadAll next ms less new) same rest));
              }
        ];
  }

  -- all events
  pub leads-all : (here : List (Seen S)) → LeadsOn next first here [] whole → LeadAll next first whole here
  leads-all here on = on.leads here refl

  pub leads-sent : (here : List (Seen S)) → LeadsOn next first here [] whole →
      (script : S) (o : Setup) (rounds : ℕ) (x : Delivered ℕ) → AllFit next script o rounds x first →
      LeadAll next first (sent_in rounds x whole) here
  leads-sent here on script o rounds x f = (on.stands script o rounds x f).leads here refl
