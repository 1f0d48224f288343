-- The words of five servers, which are read one after another.
use Rattle.std.proofs.Common.{◌≡◌, ◌≤◌, ◌<◌, ℕ, ◌+◌, List, [], ◌∷◌, ◌++◌, length, drop, get_or, All, Ok, Err, arith, refl, sym}
use Rattle.std.proofs.Common.{ap, ◌∙◌, length-append, length-drop, subst}
use Rattle.std.proofs.lemmas.List.{drop_all, drop_more, map-append}
use Rattle.std.proofs.lemmas.List.Elements.{All-append, All-nil, All-cons}
use Rattle.beet_store.specs.Files.{Seen}
use Rattle.beet_book.specs.declared.sources.ServerSource.TheVariants.{Seed}
use Rattle.beet_errand.specs.Fetches.{Reads, ReadsFor}
use Rattle.beet_errand.specs.declared.answer.Stop.{Stop}
use Rattle.beet_errand.proofs.Frame.{Reached, reached_none, reached_more, reached_last, stopped}
use Rattle.beet_load.specs.Servers.{ServerWords, server_errand}
use Rattle.beet_load.specs.declared.wanted.Wanted.{Wanted}
use Rattle.beet_five_load.specs.FiveServers.{AreServing, CanServe, ServerLists, lists_of, servers_errand}

-- the words of some servers are read, and those with the other seeds are left
pub record ReadsServers (wanted : Wanted) (seeds rest : List (List ℕ)) (old now : Seen) (lists : ServerLists) : Type 0 where
  pub servers : List ServerWords
  pub read : Reached old now (servers_errand wanted [] seeds) (servers_errand wanted servers rest)
  pub kept : lists ≡ lists_of servers
  pub count : length servers + length rest ≡ length seeds
  pub each : All (CanServe wanted.counts) servers

-- no server is read yet
pub servers-none : (wanted : Wanted) (seeds : List (List ℕ)) (seen : Seen) →
    ReadsServers wanted seeds seeds seen seen (lists_of [])
servers-none wanted seeds seen =
    record { servers = []; read = reached_none; kept = refl; count = omega arith; each = All-nil _ }

-- the lists with those of one server more
pushed : (before after : ServerLists) (servers : List ServerWords) (words : ServerWords) → before ≡ lists_of servers →
    after ≡ record { masks = before.masks ++ words.masks ∷ []; coefficients = before.coefficients ++ words.coefficients ∷ [] } →
    after ≡ lists_of (servers ++ words ∷ [])
pushed before after servers words b a =
    a ∙ rw (
      b,
      map-append (λ (w : ServerWords). w.masks) servers (words ∷ []),
      map-append (λ (w : ServerWords). w.coefficients) servers (words ∷ []),
    ) refl

module _ (wanted : Wanted) (seeds : List (List ℕ)) (i : ℕ) (seed : List ℕ) (old middle now : Seen) (before : ServerLists)
    (lt : i < length seeds) (e : get_or seeds i [] ≡ seed)
    (h : ReadsServers wanted seeds (drop i seeds) old middle before) where
  here : ReadsServers wanted seeds (seed ∷ drop (i + 1) seeds) old middle before
  here = subst (λ (rest : List (List ℕ)). ReadsServers wanted seeds rest old middle before)
      (drop_more seeds i [] lt ∙ ap (λ x. x ∷ drop (i + 1) seeds) e) h

  many : length here.servers ≡ i
  many = let c = here.count in omega (arith, c, length-drop (i + 1) seeds, lt)

  -- the words of the server at a place are read
  pub servers-more : (words : ServerWords) (after : ServerLists) → CanServe wanted.counts words →
      after ≡ record { masks = before.masks ++ words.masks ∷ []; coefficients = before.coefficients ++ words.coefficients ∷ [] } →
      Reads (λ (w : ServerWords). w) middle now (server_errand wanted (i + 1) (Seed seed)) (Ok words) →
      ReadsServers wanted seeds (drop (i + 1) seeds) old now after
  servers-more words after can kept r =
      let r' = rw (sym many) at r in
      let servers = here.servers in
      let rest = λ (w : ServerWords). servers_errand wanted (servers ++ w ∷ []) (drop (i + 1) seeds) in
      record {
        servers = servers ++ words ∷ [];
        read = subst (λ (w : ServerWords). Reached old now (servers_errand wanted [] seeds) (rest w))
            r'.gives.1 (reached_more rest here.read r');
        kept = pushed before after servers words here.kept kept;
        count = let c = here.count in omega (arith, length-append servers (words ∷ []), c);
        each = let P = CanServe wanted.counts in All-append P servers (words ∷ []) here.each (All-cons P words [] can (All-nil P));
      }

  -- that server stops the job
  pub servers-stopped : {T U : Type 0} {shows : T → ServerWords → Type 0} {last : U → List ServerWords → Type 0} (stop : Stop) →
      ReadsFor shows middle now (server_errand wanted (i + 1) (Seed seed)) (Err stop) →
      ReadsFor last old now (servers_errand wanted [] seeds) (Err stop)
  servers-stopped stop r =
      reached_last here.read (stopped {
      rest = λ w. servers_errand wanted (here.servers ++ w ∷ []) (drop (i + 1) seeds)} (rw (sym many) at r))

-- all servers are read
pub servers-all : (wanted : Wanted) (seeds : List (List ℕ)) (i : ℕ) (old now : Seen) (lists : ServerLists) →
    length seeds ≤ i → ReadsServers wanted seeds (drop i seeds) old now lists →
    ReadsFor (AreServing wanted.counts seeds) old now (servers_errand wanted [] seeds) (Ok lists)
servers-all wanted seeds i old now lists ge h =
    let k = subst (λ (rest : List (List ℕ)). ReadsServers wanted seeds rest old now lists) (drop_all i seeds ge) h in
    let c = k.count in
    let kept = k.read.kept in
    record {
      gives = (k.servers, record { lists = k.kept; count = omega (arith, c); each = k.each }, k.read.went);
      cause = kept;
      later = omega (arith, kept);
    }
