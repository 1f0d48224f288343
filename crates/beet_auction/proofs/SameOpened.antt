-- Runs of the auction that differ in server 3's points of the inputs open the same numbers.
use Rattle.std.proofs.Common.{◌≡◌, ℕ, zero, suc, ◌+◌, ◌/◌, Bool, true, false, List, [], ◌∷◌, ◌++◌, length, refl, sym}
use Rattle.std.proofs.Common.{◌∙◌, ap, subst, arith, add-zero, add-one, append-nil}
use Rattle.std.specs.Prelude.{nat_lt, if◌then◌else◌, ◌==◌}
use Rattle.std.proofs.Math.ListN.{get_or-eq_default}
use Rattle.beet_gates.specs.Batches.{end_batch, reveal_batch}
use Rattle.beet_gates.specs.Plans.{Plan, Ended, Block, Last, plan_batch}
use Rattle.beet_gates.specs.Scripts.{revealed}
use Rattle.beet_gates.specs.declared.Act.{Act}
use Rattle.beet_gates.specs.declared.Act.TheVariants.{Deal, Mul, Reveal, End}
use Rattle.beet_gates.specs.declared.Batch.{Batch}
use Rattle.beet_gates.proofs.PlanFacts.{Follows, follows-last, follows-now, follows-next, follows-tail, now-block, now-last}
use Rattle.beet_masking.specs.Accepting.{until_accepted}
use Rattle.beet_masking.specs.Blocks.{Blocks, after_both, after_mask}
use Rattle.beet_bids.specs.Outcomes.{shown_by}
use Rattle.beet_bids.specs.declared.outcomes.Policy.{Policy}
use Rattle.beet_plan.specs.Auction.{search_plan, end_plan, opening_plan, price_with, after_answer, with_mask}
use Rattle.beet_plan.specs.declared.Finish.{Finish}
use Rattle.beet_plan.specs.declared.Finish.TheVariants.{NoPrice, MasksSpent}
use Rattle.beet_sharing.specs.Runs.{Setup, Shared, batch_among, opened_at, opened_by, shared_at, with_batch_lets}
use Rattle.beet_auction.proofs.Apart.{Agree, Alike, BatchOwn, BlockOwn, batch-alike, wires_after, wires_after_all, with_third}
use Rattle.beet_auction.proofs.OwnBlocks.{AreOwn}

module _ {F : Type 0} where
  ended-batch : (f : F) (done : ℕ) (opened : List ℕ) → plan_batch (Ended f) done opened ≡ end_batch
  unfolding plan_batch
  ended-batch f done opened = refl

  -- what follows a plan by cases follows that of the case
  follows-if : {R : Type 0} (next : ℕ → List ℕ → Batch) (t : ℕ) (opened : List ℕ) (b : Bool) (p q : Plan F) →
      Follows next t opened (if b then p else q) →
      (Follows next t opened p → R) → (Follows next t opened q → R) → R
  follows-if next t opened true p q f first second = first f
  follows-if next t opened false p q f first second = second f

module _ (o : Setup) where
  -- a batch that opens no number, and one that opens one
  opened-none : (b : Batch) (s : Shared) → revealed b.act ≡ 0 → (batch_among o b s).opened ≡ s.opened
  opened-none b s h = by_act b.act h where
    by_act : (a : Act) → revealed a ≡ 0 → s.opened ++ opened_by (with_batch_lets b s) a ≡ s.opened
    by_act Deal h = append-nil s.opened
    by_act (Mul pairs) h = append-nil s.opened
    by_act (Reveal shown) h = by_list shown.items h where
      by_list : (ws : List ℕ) → length ws ≡ 0 → s.opened ++ opened_by (with_batch_lets b s) (Reveal (record { items = ws })) ≡ s.opened
      by_list [] h = append-nil s.opened
      by_list (w ∷ ws) h = absurd (omega arith)
    by_act End h = append-nil s.opened

  opened-one : (b : Batch) (s : Shared) → revealed b.act ≡ 1 → (x : ℕ) × ((batch_among o b s).opened ≡ s.opened ++ x ∷ [])
  opened-one b s h = by_act b.act h where
    by_act : (a : Act) → revealed a ≡ 1 → (x : ℕ) × (s.opened ++ opened_by (with_batch_lets b s) a ≡ s.opened ++ x ∷ [])
    by_act Deal h = absurd (omega arith)
    by_act (Mul pairs) h = absurd (omega arith)
    by_act (Reveal shown) h = by_list shown.items h where
      by_list : (ws : List ℕ) → length ws ≡ 1 →
          (x : ℕ) × (s.opened ++ opened_by (with_batch_lets b s) (Reveal (record { items = ws })) ≡ s.opened ++ x ∷ [])
      by_list [] h = absurd (omega arith)
      by_list (w ∷ []) h = (opened_at (with_batch_lets b s).wires w, refl)
      by_list (w ∷ v ∷ ws) h = absurd (omega arith)
    by_act End h = absurd (omega arith)

-- past the wires all points are 0
agree-past : (n : ℕ) (xs ys : List ℕ) → length xs ≡ n → length ys ≡ n → Agree n xs ys
agree-past n xs ys h k w own = get_or-eq_default xs 0 (omega arith) ∙ sym (get_or-eq_default ys 0 (omega arith))

-- and so runs that are alike are so from there on
renew : (start n : ℕ) (s t : Shared) → Alike start n s t → Alike n n s t
renew start n s t a = record {
  third = a.third;
  is = a.is;
  lets = record {
    long = a.lets.long;
    as_long = a.lets.as_long;
    same = agree-past n a.third s.wires.three a.lets.long a.lets.as_long;
  };
}

module _ (o : Setup) (points : List ℕ) where
  -- the numbers opened are the same after t batches
  abbrev pub SameOpened : ℕ → Type 0
  SameOpened t = (shared_at (with_third points o) t).opened ≡ (shared_at o t).opened

  -- the runs are alike after t batches
  abbrev pub AlikeAt : ℕ → ℕ → ℕ → Type 0
  AlikeAt start n t = Alike start n (shared_at o t) (shared_at (with_third points o) t)

  -- from t batches on the script is the plan
  abbrev pub FollowsAt : {F : Type 0} → ℕ → Plan F → Type 0
  FollowsAt t plan = Follows o.next t (shared_at o t).opened plan

  pub start-alike : (n : ℕ) → length points ≡ n → length o.inputs.three ≡ n → AlikeAt n n 0
  start-alike n long as_long = record {
    third = points;
    is = refl;
    lets = record { long = long; as_long = as_long; same = agree-past n points o.inputs.three long as_long };
  }

  same-now : (start n t : ℕ) → AlikeAt start n t → SameOpened t
  same-now start n t a = ap (λ s. s.opened) a.is

  advance : (start n t : ℕ) (b : Batch) → o.next t (shared_at o t).opened ≡ b → BatchOwn start n b → AlikeAt start n t →
      AlikeAt start (wires_after n b) (suc t)
  advance start n t b e h a =
      let s = shared_at o t in
      let s' = shared_at (with_third points o) t in
      let e' : o.next t s'.opened ≡ b = ap (o.next t) (same-now start n t a) ∙ e in
      subst (λ x. Alike start (wires_after n b) (batch_among o x s) (shared_at (with_third points o) (suc t))) (sym e)
      (subst (λ x. Alike start (wires_after n b) (batch_among o b s) (batch_among (with_third points o) x s')) (sym e')
      (batch-alike start o points b n s s' h a))

  module _ {F : Type 0} where
    block-goes : (start n : ℕ) (bs : List Batch) (k : ℕ → Plan F) (t : ℕ) → BlockOwn start n bs → AlikeAt start n t →
        FollowsAt t (Block bs k) →
        ((x u : ℕ) → AlikeAt start (wires_after_all n bs) u → FollowsAt u (k x) → (j : ℕ) → SameOpened (u + j)) →
        (j : ℕ) → SameOpened (t + j)
    unfolding BlockOwn
    block-goes start n [] k t h a f rest j = absurd h
    block-goes start n (b ∷ []) k t h a f rest zero = subst SameOpened (sym (add-zero t)) (same-now start n t a)
    block-goes start n (b ∷ []) k t h a f rest (suc j) =
        let s = shared_at o t in
        let now : o.next t s.opened ≡ b = follows-now o.next t s.opened (Block (b ∷ []) k) f ∙ now-block b [] k in
        let one = opened-one o b s h.1 in
        let opened : (shared_at o (suc t)).opened ≡ s.opened ++ one.0 ∷ [] = ap (λ x. (batch_among o x s).opened) now ∙ one.1 in
        let e : suc t + j ≡ t + suc j = omega arith in
        subst SameOpened e (rest one.0 (suc t) (advance start n t b now h.0 a)
        (subst (λ x. Follows o.next (suc t) x (k one.0)) (sym opened) (rw add-one at (follows-next o.next t s.opened b k one.0 f))) j)
    block-goes start n (b ∷ c ∷ bs) k t h a f rest zero = subst SameOpened (sym (add-zero t)) (same-now start n t a)
    block-goes start n (b ∷ c ∷ bs) k t h a f rest (suc j) =
        let s = shared_at o t in
        let now : o.next t s.opened ≡ b = follows-now o.next t s.opened (Block (b ∷ c ∷ bs) k) f ∙ now-block b (c ∷ bs) k in
        let opened : (shared_at o (suc t)).opened ≡ s.opened = ap (λ x. (batch_among o x s).opened) now ∙ opened-none o b s h.1 in
        let e : suc t + j ≡ t + suc j = omega arith in
        subst SameOpened e (block-goes start (wires_after n b) (c ∷ bs) k (suc t) h.2 (advance start n t b now h.0 a)
        (subst (λ x. Follows o.next (suc t) x (Block (c ∷ bs) k)) (sym opened)
        (rw add-one at (follows-tail o.next t s.opened b c bs k f))) rest j)

    ended-goes : (f : F) (start n t : ℕ) → AlikeAt start n t → FollowsAt t (Ended f) → (j : ℕ) → SameOpened (t + j)
    ended-goes f start n t a g zero = subst SameOpened (sym (add-zero t)) (same-now start n t a)
    ended-goes f start n t a g (suc j) =
        let s = shared_at o t in
        let now : o.next t s.opened ≡ end_batch = follows-now o.next t s.opened (Ended f) g ∙ ended-batch f 0 [] in
        let opened : (shared_at o (suc t)).opened ≡ s.opened = ap (λ x. (batch_among o x s).opened) now ∙ append-nil s.opened in
        let later : Follows o.next (suc t) s.opened (Ended f) = record {
          batch = λ d more.
              let e : suc t + d ≡ t + suc d = omega arith in
              rw e (g.batch (suc d) more ∙ ended-batch f (suc d) more ∙ sym (ended-batch f d more));
        } in
        let e : suc t + j ≡ t + suc j = omega arith in
        subst SameOpened e (ended-goes f start (wires_after n end_batch) (suc t) (advance start n t end_batch now (tt, tt) a)
        (subst (λ x. Follows o.next (suc t) x (Ended f)) (sym opened) later) j)

  shows-own : (start n : ℕ) (wires : List ℕ) → BatchOwn start n (reveal_batch [] wires)
  shows-own start n wires = (tt, tt)

  last-goes : (b : Batch) (k : ℕ) (named : List ℕ → Finish) (start n t : ℕ) → BatchOwn start n b → AlikeAt start n t →
      FollowsAt t (Last b k named) →
      (j : ℕ) → SameOpened (t + j)
  last-goes b k named start n t h a f zero = subst SameOpened (sym (add-zero t)) (same-now start n t a)
  last-goes b k named start n t h a f (suc j) =
      let s = shared_at o t in
      let now : o.next t s.opened ≡ b = follows-now o.next t s.opened (Last b k named) f ∙ now-last b k named in
      let new = opened_by (with_batch_lets b s) b.act in
      let opened : (shared_at o (suc t)).opened ≡ s.opened ++ new = ap (λ x. (batch_among o x s).opened) now in
      let e : suc t + j ≡ t + suc j = omega arith in
      subst SameOpened e (ended-goes (named new) start (wires_after n b) (suc t) (advance start n t b now h a)
      (subst (λ x. Follows o.next (suc t) x (Ended (named new))) (sym opened)
      (rw add-one at (follows-last o.next t s.opened new b k named f))) j)

  -- wires are opened, where there are some
  opening-goes : (wires : List ℕ) (named : List ℕ → Finish) (start n t : ℕ) → AlikeAt start n t →
      FollowsAt t (opening_plan wires named) → (j : ℕ) → SameOpened (t + j)
  opening-goes [] named start n t a f = ended-goes (named []) start n t a f
  opening-goes (w ∷ ws) named start n t a f =
      last-goes (reveal_batch [] (w ∷ ws)) (length (w ∷ ws)) named start n t (shows-own start n (w ∷ ws)) a f

  end-goes : (policy : Policy) (prices place start n t : ℕ) → AlikeAt start n t →
      FollowsAt t (end_plan policy prices place) → (j : ℕ) → SameOpened (t + j)
  end-goes policy prices place start n t a f =
      follows-if o.next t (shared_at o t).opened (nat_lt place prices)
      (opening_plan (shown_by policy (prices + place) place) (price_with place)) (Ended NoPrice) f
      (λ g. opening-goes (shown_by policy (prices + place) place) (price_with place) start n t a g)
      (λ g. ended-goes NoPrice start n t a g)

  module _ (g : Blocks) (own : AreOwn g) where
    -- masks until one is accepted
    until-goes : {F : Type 0} (spent : F) (spare first t : ℕ) (next : ℕ → ℕ → Plan F) → AlikeAt first first t →
        FollowsAt t (until_accepted g spent spare first next) →
        ((left mask u : ℕ) → AlikeAt mask (after_mask g mask) u → FollowsAt u (next left mask) → (j : ℕ) →
        SameOpened (u + j)) → (j : ℕ) → SameOpened (t + j)
    unfolding until_accepted
    until-goes spent zero first t next a f go =
        block-goes first first (g.mask first) (λ product. if product == 1 then Ended spent else next zero first) t (own.mask first).0 a f
        (λ product u b h.
        let b' : AlikeAt first (after_mask g first) u = subst (λ m. AlikeAt first m u) (own.mask first).1 b in
        follows-if o.next u (shared_at o u).opened (product == 1) (Ended spent) (next zero first) h
        (λ h'. ended-goes spent first (after_mask g first) u b' h')
        (λ h'. go zero first u b' h'))
    until-goes spent (suc n) first t next a f go =
        let again = until_accepted g spent n (after_mask g first) next in
        block-goes first first (g.mask first) (λ product. if product == 1 then again else next (suc n) first) t (own.mask first).0 a f
        (λ product u b h.
        let b' : AlikeAt first (after_mask g first) u = subst (λ m. AlikeAt first m u) (own.mask first).1 b in
        follows-if o.next u (shared_at o u).opened (product == 1) again (next (suc n) first) h
        (λ h'. until-goes spent n (after_mask g first) u next (renew first (after_mask g first) _ _ b') h' go)
        (λ h'. go (suc n) first u b' h'))

    -- the whole search
    pub search-goes : (policy : Policy) (prices n lo hi spare first t : ℕ) → AlikeAt first first t →
        FollowsAt t (search_plan g policy prices n lo hi spare first) →
        (j : ℕ) → SameOpened (t + j)
    unfolding search_plan
    search-goes policy prices zero lo hi spare first t a f = end-goes policy prices lo first first t a f
    search-goes policy prices (suc n) lo hi spare first t a f =
        let mid = (lo + hi) / 2 in
        let search = search_plan g policy prices n in
        follows-if o.next t (shared_at o t).opened (nat_lt lo hi)
        (until_accepted g MasksSpent spare first (with_mask g prices search lo hi)) (end_plan policy prices lo) f
        (λ f. until-goes MasksSpent spare first t (with_mask g prices search lo hi) a f
        (λ left mask u b h.
        let free = after_mask g mask in
        let both = after_both g mask in
        let masked = g.masked free mask mid (prices + mid) in
        let answers : ℕ → Plan Finish = λ c. Block (g.answer free mask c) (after_answer g search lo hi left mask) in
        block-goes mask free (masked ∷ []) answers u (own.masked mask mid (prices + mid)) b h
        (λ c v d i.
        let answer = own.answer mask mid (prices + mid) c in
        block-goes mask (wires_after_all free (masked ∷ [])) (g.answer free mask c) (after_answer g search lo hi left mask) v answer.0 d i
        (λ reached w x y.
        let x' : AlikeAt both both w = renew mask both _ _ (subst (λ m. AlikeAt mask m w) answer.1 x) in
        follows-if o.next w (shared_at o w).opened (reached == 1) (search lo mid left both) (search (mid + 1) hi left both) y
        (λ z. search-goes policy prices n lo mid left both w x' z)
        (λ z. search-goes policy prices n (mid + 1) hi left both w x' z)))))
        (λ f. end-goes policy prices lo first first t a f)
