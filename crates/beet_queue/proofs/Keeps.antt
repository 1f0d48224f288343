-- Each step keeps the rule of the queue.
use Rattle.std.proofs.Common.{◌≡◌, ◌≢◌, ◌≤◌, ◌<◌, ◌+◌, ◌⊎◌, ◌||◌, inl, inr, ℕ, zero, suc, Bool, true, false, true≢false}
use Rattle.std.proofs.Common.{if◌then◌else◌, cond, List, [], ◌∷◌, ◌++◌, length, set, take, filter, Some, slice_get, sym}
use Rattle.std.proofs.Common.{refl, ap, ◌∙◌, subst, ⊎_elim, append_assoc, arith, length-append}
use mathlib.Core.Option.{some, some-ne-none}
use lib.ListN.{get_elem?}
use Rattle.std.proofs.lemmas.Bool.{cases_Bool, or_cases}
use Rattle.std.proofs.lemmas.List.{append-nil, set-set, take_more}
use Rattle.std.proofs.lemmas.List.Elements.{filter-append}
use Rattle.std.proofs.lemmas.Option.{slice_get_within, get_or_from_slice_get}
use Rattle.crossbeam_queue.specs.Fifo.{Pushes, Pops, Forks, Merges, Learns, Held}
use Rattle.crossbeam_queue.proofs.Lists.{at_set, at_snoc, set_here}
use Rattle.beet_field.specs.Trio.{member, with_member, trio_of}
use Rattle.beet_field.specs.declared.point.Point.{Point}
use Rattle.beet_field.specs.declared.point.Point.TheVariants.{One, Two, Three}
use Rattle.beet_field.specs.declared.trio.Trio.{Trio}
use Rattle.beet_delivery.specs.Events.{same}
use Rattle.beet_delivery.proofs.ThreeServers.{same_is, same_self}
use Rattle.beet_queue.specs.declared.rule.Known.{Known}
use Rattle.beet_queue.specs.Rule.{Carries, HasRoom, IsDue, Knows, KnowsAll, all_named, both, first_known, known_of}
use Rattle.beet_queue.specs.Rule.{no_one, nothing_known, of, one_put, one_taken, sender_of, without}
use Rattle.beet_queue.proofs.Members.{at_member, member-here, member-trio_of, with_same}

-- two servers that are not one are told apart
unless : (s i : Point) → (s ≡ i → ⊥) → same s i ≡ false
unless s i apart = ⊎_elim (λ yes. absurd (apart (same_is s i yes))) (λ no. no) (cases_Bool (same s i))

apart_from : (s i : Point) → s ≡ i → same s i ≡ false → ⊥
apart_from s i here away = true≢false (sym (same_self s) ∙ ap (same s) here ∙ away)

-- who has one right alone
only : (s i : Point) → member (with_member no_one s true) i ≡ true → s ≡ i
only s i = at_member (λ b. b ≡ true → s ≡ i) no_one s i true (λ here _. here)
    (λ _ has. absurd (true≢false (sym has ∙ member-trio_of (λ _. false) i)))

-- sums of three numbers that are no more than three others, and one of them less
sums : (s : Point) (a b : Trio ℕ) → ((j : Point) → member a j ≤ member b j) → member a s < member b s →
    a.one + a.two + a.three < b.one + b.two + b.three
sums One a b le lt = let h : a.two ≤ b.two = le Two in let i : a.three ≤ b.three = le Three in let g : a.one < b.one = lt in omega arith
sums Two a b le lt = let h : a.one ≤ b.one = le One in let i : a.three ≤ b.three = le Three in let g : a.two < b.two = lt in omega arith
sums Three a b le lt = let h : a.one ≤ b.one = le One in let i : a.two ≤ b.two = le Two in let g : a.three < b.three = lt in omega arith

module _ {T : Type 0} where
  -- what stands in the middle of the first so many items of a list
  pub middle : (pre post l : List T) (x : T) (n : ℕ) → pre ++ x ∷ post ≡ take n l → (slice_get l (length pre) ≡ Some x) × (length pre < n)
  middle [] post l x zero e = absurd (cc)
  middle [] post [] x (suc n) e = absurd (cc)
  middle [] post (y ∷ l) x (suc n) e = (cc, omega arith)
  middle (p ∷ pre) post l x zero e = absurd (cc)
  middle (p ∷ pre) post [] x (suc n) e = absurd (cc)
  middle (p ∷ pre) post (y ∷ l) x (suc n) e = let h = middle pre post l x n cc in (h.0, let lt = h.1 in omega arith)

  pub take_next : (l : List T) (n : ℕ) (x : T) → slice_get l n ≡ Some x → take (n + 1) l ≡ take n l ++ x ∷ []
  take_next l n x e = take_more l n x (slice_get_within l n x e) ∙ ap (λ (y : T). take n l ++ y ∷ []) (get_or_from_slice_get l n x x e)

  take_few : (n : ℕ) (l : List T) → length (take n l) ≤ n
  take_few zero l = omega arith
  take_few (suc n) [] = omega arith
  take_few (suc n) (x ∷ l) = let h = take_few n l in omega arith

  take_short : (n : ℕ) (l : List T) → length (take n l) ≤ length l
  take_short zero l = omega arith
  take_short (suc n) [] = omega arith
  take_short (suc n) (x ∷ l) = let h = take_short n l in omega arith

  within : (l : List (Known T)) (i : ℕ) (a : Known T) → get_elem? l i ≡ some a → i < length l
  within [] i a e = absurd (some-ne-none a (sym e))
  within (x ∷ l) zero a e = omega arith
  within (x ∷ l) (suc i) a e = let h = within l i a e in omega arith

  at_end : (l : List (Known T)) (a b : Known T) (j : ℕ) → get_elem? l j ≢ some b → get_elem? (l ++ a ∷ []) j ≡ some b → j ≡ length l
  at_end [] a b zero n e = refl
  at_end [] a b (suc j) n e = absurd (some-ne-none b (sym e))
  at_end (x ∷ xs) a b zero n e = absurd (n e)
  at_end (x ∷ xs) a b (suc j) n e = ap suc (at_end xs a b j n e)

  abbrev All : (ℕ → Known T → Type 0) → List (Known T) → Type 0
  All F known = (port : ℕ) (v : Known T) → get_elem? known port ≡ some v → F port v

  all_set : (F : ℕ → Known T → Type 0) (known : List (Known T)) (port : ℕ) (w : Known T) → F port w →
      ((j : ℕ) (u : Known T) → j ≢ port → get_elem? known j ≡ some u → F j u) → All F (set known port w)
  all_set F known port w mine others j u e =
      ⊎_elim (λ (x : (j ≡ port) × (w ≡ u)). subst (λ (y : ℕ × Known T). F y.0 y.1) (λ i. (sym x.0 i, x.1 i)) mine)
      (λ (x : (j ≢ port) × (get_elem? known j ≡ some u)). others j u x.0 x.1) (at_set known port j w u e)

  count_one : (p : Point) (x : T) (a b c : List T) →
      suc (length a + length b + length c) ≡ length (cond (same p One) (x ∷ a) a) + length (cond (same p Two) (x ∷ b) b)
      + length (cond (same p Three) (x ∷ c) c)
  count_one One x a b c = omega arith
  count_one Two x a b c = omega arith
  count_one Three x a b c = omega arith

module _ {T : Type 0} (server : T → Point) where
  -- each item is of one server
  counted : (xs : List T) → length xs ≡ length (of server One xs) + length (of server Two xs) + length (of server Three xs)
  counted [] = refl
  counted (x ∷ xs) = ap suc (counted xs) ∙ count_one (server x) x (of server One xs) (of server Two xs) (of server Three xs)

  pub of-mine : (s : Point) (x : T) (xs : List T) → same (server x) s ≡ true → of server s (x ∷ xs) ≡ x ∷ of server s xs
  of-mine s x xs e = ap (λ b. cond b (x ∷ of server s xs) (of server s xs)) e

  pub of-other : (s : Point) (x : T) (xs : List T) → same (server x) s ≡ false → of server s (x ∷ xs) ≡ of server s xs
  of-other s x xs e = ap (λ b. cond b (x ∷ of server s xs) (of server s xs)) e

  -- an item behind others, of its server and of another
  pub of-snoc : (s : Point) (xs : List T) (x : T) → same (server x) s ≡ true → of server s (xs ++ x ∷ []) ≡ of server s xs ++ x ∷ []
  of-snoc s xs x e = filter-append (λ y. same (server y) s) xs (x ∷ []) ∙ ap (λ l. of server s xs ++ l) (of-mine s x [] e)

  pub of-snoc_other : (s : Point) (xs : List T) (x : T) → same (server x) s ≡ false → of server s (xs ++ x ∷ []) ≡ of server s xs
  of-snoc_other s xs x e = filter-append (λ y. same (server y) s) xs (x ∷ [])
      ∙ ap (λ l. of server s xs ++ l) (of-other s x [] e) ∙ append-nil (of server s xs)

  -- the empty queue with its first pass
  knows_first : (port : ℕ) (v : Known T) → get_elem? (first_known ∷ []) port ≡ some v →
      Knows (trio_of (λ _. 0)) 0 (trio_of (λ _. [])) (trio_of (λ _. 0)) [] port v
  knows_first zero v e = let is : first_known ≡ v = cc in
      subst (λ (u : Known T). Knows (trio_of (λ _. 0)) 0 (trio_of (λ _. [])) (trio_of (λ _. 0)) [] 0 u) is
      ((λ s _. (sym (member-trio_of (λ _. 0) s), refl, refl)), λ _. (refl, refl, refl))
  knows_first (suc port) v e = absurd (some-ne-none v (sym e))

  pub begins : Carries server [] (first_known ∷ [])
  begins = record {
    writer = trio_of (λ _. 0);
    reader = 0;
    streams = trio_of (λ _. []);
    put = trio_of (λ _. 0);
    taken = [];
    ordered = λ s. ap (λ n. take n (member (trio_of (λ _. [])) s)) (sym (member-trio_of (λ _. 0) s));
    knows = knows_first;
  }

  -- the server of an item that is the next puts it
  pub puts : (n port : ℕ) (v : Known T) (x : T) → member v.puts (server x) ≡ true →
      slice_get (member v.streams (server x)) (member v.put (server x)) ≡ Some x →
      Pushes (Carries server) n port v x (λ w. w ≡ one_put (server x) v)
  puts n port v x may next items known _ h at =
      let s : Point = server x in
      let w : Known T = one_put s v in
      let mine = (h.knows port v at).0 s may in
      let next' : slice_get (member h.streams s) (member h.put s) ≡ Some x =
      subst (λ (p : Trio (List T) × ℕ). slice_get (member p.0 s) p.1 ≡ Some x) (λ i. (mine.1 i, mine.2 i)) next in
      let longer : (j : Point) → h.taken ++ (items ++ x ∷ []) ≡ (h.taken ++ items) ++ x ∷ [] =
      λ j. sym (append_assoc h.taken items (x ∷ [])) in
      let put_here : of server s (h.taken ++ (items ++ x ∷ [])) ≡ take (member h.put s + 1) (member h.streams s) =
      ap (of server s) (longer s) ∙ of-snoc s (h.taken ++ items) x (same_self s) ∙ ap (λ l. l ++ x ∷ []) (h.ordered s)
      ∙ sym (take_next (member h.streams s) (member h.put s) x next') in (
        w,
        record {
          writer = h.writer;
          reader = h.reader;
          streams = h.streams;
          put = with_member h.put s (member h.put s + 1);
          taken = h.taken;
          ordered = λ j. at_member (λ k. of server j (h.taken ++ (items ++ x ∷ [])) ≡ take k (member h.streams j)) h.put
              s j (member h.put s + 1)
              (λ here. subst (λ k. of server k (h.taken ++ (items ++ x ∷ []))
              ≡ take (member h.put s + 1) (member h.streams k)) here put_here)
              (λ away. ap (of server j) (longer j) ∙ of-snoc_other j (h.taken ++ items) x away ∙ h.ordered j);
          knows = all_set (Knows h.writer h.reader h.streams (with_member h.put s (member h.put s + 1)) h.taken) known port w (
            (λ j has. let k = (h.knows port v at).0 j has in (
              k.0,
              k.1,
              with_same v.put h.put s j (member v.put s + 1) (member h.put s + 1) (ap (λ m. m + 1) mine.2) (λ _. k.2),
            )),
            (h.knows port v at).1,
          )
              (λ j u other e. (
                (λ i has. let k = (h.knows j u e).0 i has in (
                  k.0,
                  k.1,
                  at_member (λ m. member u.put i ≡ m) h.put s i (member h.put s + 1)
                      (λ here. absurd (other (k.0 ∙ ap (member h.writer) (sym here) ∙ sym mine.0))) (λ _. k.2),
                )),
                (h.knows j u e).1,
              ));
        },
        refl,
      )

  -- what a sender knows of the queue
  pub has_room : (port : ℕ) (v : Known T) → Learns (Carries server) port v (HasRoom v)
  has_room port v items known h at s has left =
      let k = (h.knows port v at).0 s has in
      let found : Trio ℕ = trio_of (λ j. length (of server j (h.taken ++ items))) in
      let most : Trio ℕ = trio_of (λ j. length (member h.streams j)) in
      let fewer : (j : Point) → length (of server j (h.taken ++ items)) ≤ length (member h.streams j) =
      λ j. subst (λ (l : List T). length l ≤ length (member h.streams j)) (sym (h.ordered j))
      (take_short (member h.put j) (member h.streams j)) in
      let few : length (of server s (h.taken ++ items)) ≤ member h.put s =
      subst (λ (l : List T). length l ≤ member h.put s) (sym (h.ordered s)) (take_few (member h.put s) (member h.streams s)) in
      let left' : member h.put s < length (member h.streams s) =
      subst (λ (p : Trio (List T) × ℕ). p.1 < length (member p.0 s)) (λ i. (k.1 i, k.2 i)) left in
      let all : length (of server One (h.taken ++ items)) + length (of server Two (h.taken ++ items))
      + length (of server Three (h.taken ++ items)) < all_named h.streams =
      sums s found most
      (λ j. subst (λ (p : ℕ × ℕ). p.0 ≤ p.1) (λ i. (
        sym (member-trio_of (λ j. length (of server j (h.taken ++ items))) j) i,
        sym (member-trio_of (λ j. length (member h.streams j)) j) i,
      )) (fewer j))
      (subst (λ (p : ℕ × ℕ). p.0 < p.1) (λ i. (
        sym (member-trio_of (λ j. length (of server j (h.taken ++ items))) s) i,
        sym (member-trio_of (λ j. length (member h.streams j)) s) i,
      )) (let lt : length (of server s (h.taken ++ items)) < length (member h.streams s) = omega arith in lt)) in
      let held : length items < all_named h.streams = let c = counted (h.taken ++ items) in
      let d = length-append h.taken items in omega (arith, all, c, d) in
      subst (λ (t : Trio (List T)). length items < all_named t) (sym k.1) held

  -- the receiver takes the front
  pub takes : (port : ℕ) (v : Known T) → v.takes ≡ true → Pops (Carries server) port v (λ x w. (w ≡ one_taken x v) × IsDue server v x)
  takes port v may x items known h at =
      let s : Point = server x in
      let w : Known T = one_taken x v in
      let mine = (h.knows port v at).1 may in
      let parts : of server s h.taken ++ x ∷ of server s items ≡ take (member h.put s) (member h.streams s) =
      sym (filter-append (λ y. same (server y) s) h.taken (x ∷ items)
      ∙ ap (λ l. of server s h.taken ++ l) (of-mine s x items (same_self s))) ∙ h.ordered s in
      let found = middle (of server s h.taken) (of server s items) (member h.streams s) x (member h.put s) parts in (
        w,
        record {
          writer = h.writer;
          reader = h.reader;
          streams = h.streams;
          put = h.put;
          taken = h.taken ++ x ∷ [];
          ordered = λ j. ap (of server j) (append_assoc h.taken (x ∷ []) items) ∙ h.ordered j;
          knows = all_set (Knows h.writer h.reader h.streams h.put (h.taken ++ x ∷ [])) known port w
              ((h.knows port v at).0, λ _. (mine.0, mine.1, ap (λ l. l ++ x ∷ []) mine.2))
              (λ j u other e. ((h.knows j u e).0, λ p. absurd (other (((h.knows j u e).1 p).0 ∙ sym mine.0))));
        },
        (
          refl,
          (
            subst (λ (p : Trio (List T) × List T). slice_get (member p.0 s) (length (of server s p.1)) ≡ Some x)
                (λ i. (sym mine.1 i, sym mine.2 i)) found.0,
            λ has. subst (λ (p : List T × ℕ). length (of server s p.0) < p.1)
                (λ i. (sym mine.2 i, sym ((h.knows port v at).0 s has).2 i)) found.1,
          ),
        ),
      )

  pub knows_all : (port : ℕ) (v : Known T) → Learns (Carries server) port v (KnowsAll server v)
  knows_all port v items known h at may s has =
      let mine = (h.knows port v at).1 may in
      let put = (h.knows port v at).0 s has in
      subst (λ (p : List T × ℕ × Trio (List T)). of server s (p.0 ++ items) ≡ take p.1 (member p.2 s))
      (λ i. (sym mine.2 i, sym put.2 i, sym mine.1 i)) (h.ordered s)

  -- the first pass names the items
  abbrev naming : Trio (List T) → Known T
  naming streams = known_of (trio_of (λ _. true)) true streams (trio_of (λ _. 0)) []

  names : (port : ℕ) (streams : Trio (List T)) (items : List T) (known : List (Known T)) → Carries server items known →
      get_elem? known port ≡ some first_known →
      Carries server items (set known port (naming streams))
  names port streams items known h at =
      let mine = h.knows port first_known at in
      let all = (λ (s : Point). mine.0 s (member-trio_of (λ _. true) s)) in
      let none : (s : Point) → 0 ≡ member h.put s = λ s. sym (member-trio_of (λ _. 0) s) ∙ (all s).2 in
      record {
        writer = h.writer;
        reader = h.reader;
        streams = streams;
        put = h.put;
        taken = h.taken;
        ordered = λ s. h.ordered s ∙ ap (λ n. take n (member h.streams s)) (sym (none s)) ∙ ap (λ n. take n (member streams s)) (none s);
        knows = all_set (Knows h.writer h.reader streams h.put h.taken) known port (naming streams)
            ((λ s has. ((all s).0, refl, (all s).2)), λ _. ((mine.1 refl).0, refl, (mine.1 refl).2))
            (λ j u other e. (
              (λ s has. absurd (other (((h.knows j u e).0 s has).0 ∙ sym (all s).0))),
              λ has. absurd (other (((h.knows j u e).1 has).0 ∙ sym (mine.1 refl).0)),
            ));
      }

  -- a pass that knows the items gives away the right of a server
  divides_named : (port : ℕ) (v : Known T) (s : Point) (streams : Trio (List T)) → member v.puts s ≡ true → v.streams ≡ streams →
      Forks (Carries server) port v (without streams s v) (sender_of streams s v)
  divides_named port v s streams may named items known h at =
      let l : Known T = without streams s v in
      let r : Known T = sender_of streams s v in
      let vs : List (Known T) = set known port l in
      let mine = h.knows port v at in
      let give = mine.0 s may in
      let alike : streams ≡ h.streams = sym named ∙ give.1 in
      let Old : ℕ → Known T → Type 0 = λ j u.
      ((i : Point) → member u.puts i ≡ true →
      (same s i ≡ false) × (j ≡ member h.writer i) × (u.streams ≡ h.streams) × (member u.put i ≡ member h.put i))
      × (u.takes ≡ true → (j ≡ h.reader) × (u.streams ≡ h.streams) × (u.taken ≡ h.taken)) in
      let old : All Old vs = all_set Old known port l (
        (λ i. at_member (λ b. b ≡ true → (same s i ≡ false) × (port ≡ member h.writer i) × (streams ≡ h.streams)
            × (member v.put i ≡ member h.put i)) v.puts s i false
            (λ here no. absurd (true≢false (sym no))) (λ away has. let k = mine.0 i has in (away, k.0, alike, k.2))),
        λ has. let k = mine.1 has in (k.0, alike, k.2),
      )
      (λ j u other e. (
        (λ i has. let k = (h.knows j u e).0 i has in
            (unless s i (λ here. other (k.0 ∙ ap (member h.writer) (sym here) ∙ sym give.0)), k.0, k.1, k.2)),
        (h.knows j u e).1,
      )) in
      record {
        writer = with_member h.writer s (length vs);
        reader = h.reader;
        streams = h.streams;
        put = h.put;
        taken = h.taken;
        ordered = h.ordered;
        knows = λ j u e. ⊎_elim
            (λ (x : get_elem? vs j ≡ some u). (
              (λ i has. let k = (old j u x).0 i has in (
                at_member (λ n. j ≡ n) h.writer s i (length vs) (λ here. absurd (apart_from s i here k.0)) (λ _. k.1),
                k.2,
                k.3,
              )),
              (old j u x).1,
            ))
            (λ (is : r ≡ u).
            let has_right : member u.puts s ≡ true = ap (λ (y : Known T). member y.puts s) (sym is) ∙ member-here no_one s true in
            let last : j ≡ length vs = at_end vs r u j (λ x. apart_from s s refl ((old j u x).0 s has_right).0) e in (
              (λ i has. subst (λ (p : Point × Known T). (j ≡ member (with_member h.writer s (length vs)) p.0)
                  × (p.1.streams ≡ h.streams) × (member p.1.put p.0 ≡ member h.put p.0))
                  (λ t. (only s i (ap (λ (y : Known T). member y.puts i) is ∙ has) t, is t))
                  (last ∙ sym (member-here h.writer s (length vs)), alike, give.2)),
              λ p. absurd (true≢false (sym (ap (λ (y : Known T). y.takes) is ∙ p))),
            ))
            (at_snoc vs r u j e);
      }

  -- so does the first pass, which names them
  pub divides : (port : ℕ) (v : Known T) (s : Point) (streams : Trio (List T)) → member v.puts s ≡ true →
      (v ≡ first_known) ⊎ (v.streams ≡ streams) →
      Forks (Carries server) port v (without streams s v) (sender_of streams s v)
  divides port v s streams may (inr named) = divides_named port v s streams may named
  divides port v s streams may (inl first) = λ items known h at.
      let named : Known T = naming streams in
      let at' : get_elem? known port ≡ some first_known = at ∙ ap some first in
      let here : get_elem? (set known port named) port ≡ some named = set_here known port named (within known port first_known at') in
      let made = divides_named port named s streams (member-trio_of (λ _. true) s) refl items (set known port named)
      (names port streams items known h at') here in
      subst (λ (u : Known T). Carries server items (set known port (without streams s u) ++ sender_of streams s u ∷ [])) (sym first)
      (subst (λ (l : List (Known T)). Carries server items (l ++ sender_of streams s first_known ∷ []))
      (set-set known port named (without streams s first_known)) made)

  -- the receiver takes the rights of another pass
  pub merges : (port : ℕ) (v : Known T) (other : ℕ) (w : Known T) → v.takes ≡ true →
      Merges (Carries server) port v other w (both v w) nothing_known
  merges port v other w may items known h at apart at' =
      let u : Known T = both v w in
      let vs : List (Known T) = set known port u in
      let was : get_elem? known other ≡ some w = ⊎_elim (λ x. absurd (apart x.0)) (λ x. x.1) (at_set known port other u w at') in
      let mine = h.knows port v at in
      let theirs = h.knows other w was in
      let take = mine.1 may in
      let seat : Point → ℕ = λ s. if member w.puts s then port else member h.writer s in
      let count : Point → ℕ = λ s. if member w.puts s then member w.put s else member v.put s in
      let right : Point → Bool = λ s. member v.puts s || member w.puts s in
      let given : (i : Point) → member w.puts i ≡ true → member (trio_of seat) i ≡ port =
      λ i yes. member-trio_of seat i ∙ ap (λ b. if b then port else member h.writer i) yes in
      let kept : (i : Point) → member w.puts i ≡ false → member (trio_of seat) i ≡ member h.writer i =
      λ i no. member-trio_of seat i ∙ ap (λ b. if b then port else member h.writer i) no in
      let Now : ℕ → Known T → Type 0 = λ j y. j ≢ other → Knows (trio_of seat) h.reader h.streams h.put h.taken j y in
      let now : All Now vs = all_set Now known port u
      (λ _. (
        (λ i has. ⊎_elim
            (λ (yes : member w.puts i ≡ true). (
              sym (given i yes),
              take.1,
              member-trio_of count i ∙ ap (λ b. if b then member w.put i else member v.put i) yes ∙ (theirs.0 i yes).2,
            ))
            (λ (no : member w.puts i ≡ false).
            let has_mine : member v.puts i ≡ true = ⊎_elim (λ m. m) (λ (yes : member w.puts i ≡ true). absurd (true≢false (sym yes ∙ no)))
            (or_cases (member v.puts i) (member w.puts i) (sym (member-trio_of right i) ∙ has)) in
            let k = mine.0 i has_mine in
            (k.0 ∙ sym (kept i no), k.1, member-trio_of count i ∙ ap (λ b. if b then member w.put i else member v.put i) no ∙ k.2))
            (cases_Bool (member w.puts i))),
        λ has. mine.1 has,
      ))
      (λ j y else_ e off. (
        (λ i has. let k = (h.knows j y e).0 i has in (
          ⊎_elim (λ (yes : member w.puts i ≡ true). absurd (off (k.0 ∙ sym (theirs.0 i yes).0)))
              (λ (no : member w.puts i ≡ false). k.0 ∙ sym (kept i no)) (cases_Bool (member w.puts i)),
          k.1,
          k.2,
        )),
        (h.knows j y e).1,
      )) in
      record {
        writer = trio_of seat;
        reader = h.reader;
        streams = h.streams;
        put = h.put;
        taken = h.taken;
        ordered = h.ordered;
        knows = all_set (Knows (trio_of seat) h.reader h.streams h.put h.taken) vs other nothing_known
            ((λ i has. absurd (true≢false (sym has ∙ member-trio_of (λ _. false) i))), λ has. absurd (true≢false (sym has)))
            (λ j y off e. now j y e off);
      }

-- a sender with an item left is not refused
pub never_full : {T : Type 0} (v : Known T) (s : Point) (x : T) (cap : ℕ) → member v.puts s ≡ true →
    slice_get (member v.streams s) (member v.put s) ≡ Some x →
    all_named v.streams ≤ cap → Held cap (HasRoom v) → ⊥
never_full v s x cap may next room full =
    let lt = full.2 s may (slice_get_within (member v.streams s) (member v.put s) x next) in
    let all = full.1 in
    omega arith
