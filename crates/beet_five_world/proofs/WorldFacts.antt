-- An event of a world.
use Rattle.std.proofs.Common.{◌≡◌, ◌≤◌, ◌<◌, ◌+◌, ◌-◌, ◌↔◌, ◌++◌, ◌∷◌, [], ℕ, suc, true, false, true≢false, List, length, length-append}
use Rattle.std.proofs.Common.{Some, slice_get, sym, refl, ap, subst, ◌∙◌, inl, inr, arith}
use Rattle.std.proofs.lemmas.Option.{same_Some, slice_get_within}
use Rattle.std.proofs.lemmas.Bool.{both_ways, cases_Bool, cases_eq, cases_lt, false_from_ne_true}
use Rattle.beet_delivery.specs.Networks.{Delivered, Triple, after_from, deliver, has, is_sent, nothing, passed, undelivered}
use Rattle.beet_delivery.specs.Networks.{with_triple}
use Rattle.beet_delivery.proofs.Undelivered.{passed_all}
use Rattle.beet_delivery.proofs.NetworkFacts.{deliver_sent, deliver_unsent, deliver_keeps_sent, near, sent_from, sent_parts}
use Rattle.beet_gates.specs.declared.Batch.{Batch}
use Rattle.beet_gates.proofs.EachFacts.{get-append, get-each, length-each}
use Rattle.beet_weights.specs.Quadratics.{IsServer}
use Rattle.beet_linear_sharing.specs.Runs.{Setup}
use Rattle.beet_five_server.specs.Cores.{has_ended}
use Rattle.beet_five_server.specs.Answers.{Core, fresh_core}
use Rattle.beet_five_server.specs.Fits.{Fits, message_of, messages_from}
use Rattle.beet_five_server.specs.Runs.{HasRounds, shared_at}
use Rattle.beet_five_server.proofs.Beginning.{begins}
use Rattle.beet_words.specs.Words.{accepted}
use Rattle.beet_five_server.specs.Network.{five, rank, sends_to}
use Rattle.beet_five_server.specs.declared.mail.FiveMessage.{FiveMessage}
use Rattle.beet_five_server.proofs.Networking.{five-is}
use Rattle.beet_five_server.proofs.Passing.{at-passed, away, ended-at, is-round, round-most}
use Rattle.beet_five_server.proofs.Peers.{peer-sends}
use Rattle.beet_five_server.proofs.Places.{get-seam}
use Rattle.beet_five_server.proofs.Ranks.{at-rank}
use Rattle.beet_five_world.specs.Members.{AllBegin, AllFit, AreFresh, Begins, GivesAt, IsAt, IsMember, LeadAll}
use Rattle.beet_five_world.specs.Members.{Seen, Stands, handed_rounds, triple}

-- each server of a list began from the core at its place
pub record HaveBegun {S : Type 0} (next : S → ℕ → List ℕ → Batch) (cores : List (Core S))
    (ms : List (Seen S)) : Type 0 where
  pub count : length ms ≡ length cores
  pub each_began : (k : ℕ) (m : Seen S) → IsAt ms k m → (c : Core S) × (slice_get cores k ≡ Some c) × Begins next c m

module _ {S : Type 0} (next : S → ℕ → List ℕ → Batch) (script : S) (o : Setup) (rounds : ℕ) (x : Delivered ℕ) where
  -- a message that is sent is delivered to the server at its place, and nothing changes at the others
  pub delivers : (old new : List (Seen S)) (from to t : ℕ) → IsServer to → AllFit next script o rounds x old →
      is_sent five rounds x (triple from to t) ≡ true →
      GivesAt next old new (to - 1) (message_of o from to t) → AllFit next script o rounds (deliver five rounds x (triple from to t)) new
  delivers old new from to t server f sent g =
      let e = triple from to t in
      let p = sent_parts five-is rounds x e sent in
      let at = f.stands to server g.before g.was in
      let here : g.before.core.work.round ≡ passed five rounds x to =
      at-passed next o x g.before.core.work g.before.core.mail rounds f.has (subst IsServer (sym at.me) server) at.member.fits at.quiet
      ∙ ap (passed five rounds x) at.me in
      let close : t ≤ g.before.core.work.round + 1 = let n = near five-is rounds x f.was e sent in omega (arith, n, here) in
      let given = g.gives o x from t at.member (subst (λ i. sends_to from i ≡ true) (sym at.me) p.0)
      (λ i. message_of o from (sym at.me i) t) (is-round o rounds t f.has p.1.0) close in
      let y = with_triple five x e in
      subst (λ (z : Delivered ℕ). AllFit next script o rounds z new) (sym (deliver_sent five-is rounds x e sent)) (record {
        has = f.has;
        was = subst (λ (z : Delivered ℕ). (d : Triple ℕ) → has z d ≡ true → is_sent five rounds z d ≡ true)
            (deliver_sent five-is rounds x e sent)
            (deliver_keeps_sent five-is rounds x e f.was);
        count = g.count ∙ f.count;
        stands = λ j is m there. elim (cases_eq j to) [
          | inl same ↦
              let k : g.after ≡ m = same_Some g.after m (sym g.is ∙ ap (λ i. slice_get new (i - 1)) (sym same) ∙ there) in
              subst (λ (v : Seen S). Stands next script o y j v) k (record {
                me = g.me ∙ at.me ∙ sym same;
                runs = g.script ∙ at.runs;
                member = subst
                    (λ i. IsMember next o
                    (with_triple five x (record { from = from; to = i; round = t })) g.after.core g.after.sent) at.me given.0;
                quiet = given.1;
              })
          | inr other ↦
              let s = f.stands j is m (sym (g.others (j - 1) (λ e. other (omega (arith, e, is.0, server.0)))) ∙ there) in
              record {
                me = s.me;
                runs = s.runs;
                member = record {
                  fits = away next o x m.core.work m.core.mail e (λ k. other (sym s.me ∙ sym k)) s.member.fits;
                  messages = s.member.messages;
                  goes = s.member.goes;
                };
                quiet = s.quiet;
              }
        ];
      })

  pub nothing-changes : (ms : List (Seen S)) (e : Triple ℕ) → AllFit next script o rounds x ms → is_sent five rounds x e ≡ false →
      AllFit next script o rounds (deliver five rounds x e) ms
  nothing-changes ms e f unsent =
      subst (λ (z : Delivered ℕ). AllFit next script o rounds z ms) (sym (deliver_unsent five-is rounds x e unsent)) f

  -- a server is at the rounds that it has passed
  pub is-passed : (ms : List (Seen S)) (j : ℕ) (m : Seen S) → IsServer j → AllFit next script o rounds x ms → IsAt ms (j - 1) m →
      m.core.work.round ≡ passed five rounds x j
  is-passed ms j m server f there =
      let at = f.stands j server m there in
      at-passed next o x m.core.work m.core.mail rounds f.has (subst IsServer (sym at.me) server) at.member.fits at.quiet
      ∙ ap (passed five rounds x) at.me

  -- if nothing is undelivered, a server has ended, after all rounds and with all numbers opened
  pub all-ended : (ms : List (Seen S)) (j : ℕ) (m : Seen S) → AllFit next script o rounds x ms →
      undelivered five rounds x ≡ 0 → IsServer j → IsAt ms (j - 1) m →
      (has_ended next m.core.work ≡ true) × (m.core.work.round ≡ rounds)
      × (m.core.work.opened ≡ (shared_at o rounds).opened)
  all-ended ms j m f none server there =
      let at = f.stands j server m there in
      let w = m.core.work in
      let all : w.round ≡ rounds = is-passed ms j m server f there ∙ passed_all five-is rounds x none j in (
        (ended-at next o x w m.core.mail rounds f.has (subst IsServer (sym at.me) server) at.member.fits).1 all,
        all,
        at.member.fits.opened ∙ ap (λ t. (shared_at o t).opened) all,
      )

  -- how many rounds' messages a server has handed out
  count-sent : (ms : List (Seen S)) (from : ℕ) (s : Seen S) → Stands next script o x from s → length s.sent ≡ handed_rounds s.core
  count-sent ms from s at = ap length at.member.messages ∙ length-each (messages_from o s.core.work.me) (handed_rounds s.core)

  -- what a server has handed out is what it has sent
  pub sent-counts : (ms : List (Seen S)) (from to t : ℕ) → IsServer from → IsServer to → (from ≡ to → ⊥) →
      AllFit next script o rounds x ms → (s : Seen S) → IsAt ms (from - 1) s →
      (t < length s.sent) ↔ (is_sent five rounds x (triple from to t) ≡ true)
  sent-counts ms from to t a b other f s there =
      let at = f.stands from a s there in
      let w = s.core.work in
      let mine : IsServer w.me = subst IsServer (sym at.me) a in
      let here : w.round ≡ passed five rounds x from =
      at-passed next o x w s.core.mail rounds f.has mine at.member.fits at.quiet ∙ ap (passed five rounds x) at.me in
      let count = count-sent ms from s at in
      let ends = ended-at next o x w s.core.mail rounds f.has mine at.member.fits in
      let most = round-most next o x w s.core.mail rounds f.has mine at.member.fits in
      elim (cases_Bool w.handed) [
        | inl handed ↦
            let n : length s.sent ≡ suc w.round = count ∙ rw handed refl in
            let less : w.round < rounds = elim (cases_lt w.round rounds) [
              | inl lt ↦ lt
              | inr le ↦ absurd (both_ways (has_ended next w) (at.member.goes handed) (ends.1 (omega (arith, le, most))))
            ] in (
              λ lt. sent_from five-is rounds x (triple from to t) (peer-sends from to a b other) (omega (arith, lt, n, less))
                  (omega (arith, lt, n, here)),
              λ sent. let p = sent_parts five-is rounds x (triple from to t) sent in omega (arith, p.1.1, here, n),
            )
        | inr waiting ↦
            let n : length s.sent ≡ w.round = count ∙ rw waiting refl in
            let all : w.round ≡ rounds = ends.0 (rw waiting at at.quiet) in (
              λ lt. sent_from five-is rounds x (triple from to t) (peer-sends from to a b other) (omega (arith, lt, n, all))
                  (omega (arith, lt, n, here)),
              λ sent. let p = sent_parts five-is rounds x (triple from to t) sent in omega (arith, p.1.0, all, n),
            )
      ]

  pub copy-is : (ms : List (Seen S)) (from to t : ℕ) → IsServer from → IsServer to → (from ≡ to → ⊥) → AllFit next script o rounds x ms →
      (s : Seen S) → IsAt ms (from - 1) s →
      (row : List FiveMessage) (m : FiveMessage) → slice_get s.sent t ≡ Some row → slice_get row (rank from to) ≡ Some m →
      m ≡ message_of o from to t
  copy-is ms from to t a b other f s there row m is_row is_m =
      let at = f.stands from a s there in
      let lt : t < handed_rounds s.core = let l = slice_get_within s.sent t row is_row in omega (arith, l, count-sent ms from s at) in
      let row_is : row ≡ messages_from o from t =
      same_Some row (messages_from o from t)
      (sym is_row ∙ ap (λ l. slice_get l t) at.member.messages ∙ get-each (messages_from o s.core.work.me) (handed_rounds s.core) t lt
      ∙ ap (λ i. Some (messages_from o i t)) at.me) in
      same_Some m (message_of o from to t) (sym is_m ∙ ap (λ l. slice_get l (rank from to)) row_is ∙ at-rank o from to t a b other)

  -- where the sender has not handed out the round's messages, nothing was sent
  pub event-none : (ms : List (Seen S)) (from to t : ℕ) → IsServer from → IsServer to → (from ≡ to → ⊥) → AllFit next script o rounds x ms →
      (s : Seen S) → IsAt ms (from - 1) s →
      length s.sent ≤ t → is_sent five rounds x (triple from to t) ≡ false
  event-none ms from to t a b other f s there le =
      false_from_ne_true _ (λ e. absurd (let lt = (sent-counts ms from to t a b other f s there).1 e in omega (arith, lt, le)))

  -- and else it is delivered
  pub event-some : (old new : List (Seen S)) (from to t : ℕ) → IsServer from → IsServer to → (from ≡ to → ⊥) →
      AllFit next script o rounds x old →
      (s : Seen S) → IsAt old (from - 1) s →
      (row : List FiveMessage) (m : FiveMessage) → slice_get s.sent t ≡ Some row → slice_get row (rank from to) ≡ Some m →
      GivesAt next old new (to - 1) m →
      AllFit next script o rounds (deliver five rounds x (triple from to t)) new × (is_sent five rounds x (triple from to t) ≡ true)
  event-some old new from to t a b other f s there row m is_row is_m g =
      let sent = (sent-counts old from to t a b other f s there).0 (slice_get_within s.sent t row is_row) in (
        delivers old new from to t b f sent
            (subst (λ (n : FiveMessage). GivesAt next old new (to - 1) n)
            (copy-is old from to t a b other f s there row m is_row is_m) g),
        sent,
      )

  -- servers that began stand in each run that their cores fit
  pub begun-fit : (cores : List (Core S)) (ms : List (Seen S)) → HasRounds o rounds → length cores ≡ 5 → HaveBegun next cores ms →
      AllBegin next script o cores → AllFit next script o rounds nothing ms
  begun-fit cores ms has five_cores begun all = record {
    has = has;
    was = λ e h. absurd (true≢false (sym h));
    count = begun.count ∙ five_cores;
    stands = λ j server m at.
        let began = begun.each_began (j - 1) m at in
        let here = all j server began.0 began.1 in
        let member = began.2.begins o nothing here.2 in
        record { me = began.2.me ∙ here.0; runs = began.2.script ∙ here.1; member = member.0; quiet = member.1 };
  }

module _ {S : Type 0} (next : S → ℕ → List ℕ → Batch) where
  pub none-begun : HaveBegun next [] []
  none-begun = record { count = refl; each_began = λ k m at. cc at }

  -- one server more
  pub more-begun : (cores : List (Core S)) (ms : List (Seen S)) (c : Core S) (m : Seen S) → HaveBegun next cores ms → Begins next c m →
      HaveBegun next (cores ++ c ∷ []) (ms ++ m ∷ [])
  more-begun cores ms c m begun begins = record {
    count = omega (arith, length-append ms (m ∷ []), length-append cores (c ∷ []), begun.count);
    each_began = λ k n at. elim (cases_lt k (length ms)) [
      | inl lt ↦
          let old = begun.each_began k n (sym (get-append ms (m ∷ []) k lt) ∙ at) in
          (old.0, get-append cores (c ∷ []) k (omega (arith, lt, begun.count)) ∙ old.1, old.2)
      | inr le ↦
          let there = slice_get_within (ms ++ m ∷ []) k n at in
          let last : k ≡ length ms = omega (arith, le, there, length-append ms (m ∷ [])) in
          let same : m ≡ n = same_Some m n (sym (get-seam ms m []) ∙ ap (slice_get (ms ++ m ∷ [])) (sym last) ∙ at) in
          (c, ap (slice_get (cores ++ c ∷ [])) (last ∙ begun.count) ∙ get-seam cores c [], subst (Begins next c) same begins)
    ];
  }

  module _ (most : S → ℕ) (cores : List (Core S)) (fresh : AreFresh next most cores) where
    -- the run that fresh cores begin
    abbrev pub their_setup : Setup
    their_setup = record {
      next = next fresh.script;
      inputs = fresh.inputs;
      masks = λ j. (fresh.masks j).words;
      numbers = λ j. accepted (fresh.coefficients j).words;
    }

    pub all-begin : AllBegin next fresh.script their_setup cores
    all-begin j server c at =
        let is : fresh_core next j fresh.script (fresh.inputs j) (fresh.masks j) (fresh.coefficients j) (most fresh.script) ≡ c =
        same_Some _ c (sym (fresh.are j server) ∙ at) in
        subst (λ (d : Core S). (d.work.me ≡ j) × (d.work.script ≡ fresh.script) × Fits next their_setup nothing d.work d.mail) is (
          refl,
          refl,
          begins next j fresh.script (fresh.inputs j) (fresh.masks j) (fresh.coefficients j) (most fresh.script)
              (fresh.no_mask j) (fresh.no_number j) their_setup
              (record { has_script = refl; has_inputs = refl; has_words = refl; has_numbers = refl }),
        )

    -- the core that comes after others has passed no round, and handed out nothing
    pub unused : (before after : List (Core S)) (c : Core S) → before ++ c ∷ after ≡ cores →
        IsServer c.work.me × (c.work.round ≡ 0) × (c.work.handed ≡ false)
    unused before after c all =
        let k = length before in
        let at : slice_get cores k ≡ Some c = ap (λ l. slice_get l k) (sym all) ∙ get-seam before c after in
        let lt = slice_get_within cores k c at in
        let back : suc k - 1 ≡ k = omega arith in
        let server : IsServer (suc k) = (omega arith, omega (arith, lt, fresh.count)) in
        let is : fresh_core next (suc k) fresh.script (fresh.inputs (suc k)) (fresh.masks (suc k)) (fresh.coefficients (suc k))
        (most fresh.script)
        ≡ c =
        same_Some _ c (sym (fresh.are (suc k) server) ∙ ap (slice_get cores) back ∙ at) in
        subst (λ (d : Core S). IsServer d.work.me × (d.work.round ≡ 0) × (d.work.handed ≡ false)) is (server, refl, refl)

-- the servers that a list of events led to stand after it
pub led-all : {S : Type 0} → (next : S → ℕ → List ℕ → Batch) (script : S) (o : Setup) (rounds : ℕ) (es : List (Triple ℕ))
    (old new : List (Seen S)) (x : Delivered ℕ) → LeadAll next old es new → AllFit next script o rounds x old →
    AllFit next script o rounds (after_from five rounds x es) new
led-all next script o rounds [] old new x lead f = subst (λ ms. AllFit next script o rounds x ms) lead f
led-all next script o rounds (e ∷ es) old new x lead f =
    led-all next script o rounds es lead.0 new (deliver five rounds x e) lead.2 (lead.1 script o rounds x f)
