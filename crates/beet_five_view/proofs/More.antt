-- Bytes that are appended one after another.
use Rattle.std.proofs.Common.{◌≡◌, ◌*◌, ◌+◌, ◌<◌, ℕ, List, [], ◌∷◌, ◌++◌, map, length, take, get_or, slice_index, refl, sym, ap, ◌∙◌, arith}
use Rattle.std.proofs.Common.{append_assoc, append-nil}
use Rattle.std.specs.List.{flat_map}
use Rattle.std.specs.Prelude.{if◌then◌else◌}
use Rattle.std.proofs.lemmas.List.{flat_map_more, length-take-le, take_more}
use Rattle.beet_gates.specs.Each.{each}
use Rattle.beet_gates.proofs.EachFacts.{each-more, each-same}
use Rattle.beet_bids.specs.declared.book.Bidder.{Bidder}
use Rattle.beet_book.specs.Dealing.{quantities}
use Rattle.beet_book.specs.Farmers.{BidderWithWords, farmers_of}
use Rattle.beet_book.proofs.FarmerLists.{farmers-push}
use Rattle.beet_view.specs.Transcripts.{counted_bytes}
use Rattle.beet_words.specs.Fields.{number_bytes}
use Rattle.beet_words.specs.Words.{accepted}
use Rattle.beet_weights.specs.Quadratics.{IsServer, point_of}
use Rattle.beet_five_server.specs.Network.{peers, sends_to}
use Rattle.beet_five_server.specs.Parts.{hidden}
use Rattle.beet_five_server.proofs.MailFacts.{by-server}
use Rattle.beet_five_dealing.specs.FiveInputs.{share_for}
use Rattle.beet_five_view.specs.JointViews.{round_bytes}

-- one more item that a rule gives
pub each-bytes-more : {X : Type 0} (bytes : X → List ℕ) (f : ℕ → X) (k : ℕ) (front before after : List ℕ) →
    before ≡ front ++ flat_map bytes (each f k) → after ≡ before ++ bytes (f k) →
    after ≡ front ++ flat_map bytes (each f (k + 1))
each-bytes-more bytes f k front before after so_far one =
    one ∙ ap (λ l. l ++ bytes (f k)) so_far ∙ flat_map_more bytes front (each f k) (f k)
    ∙ ap (λ l. front ++ flat_map bytes l) (sym (each-more f k))

-- the bytes of one more bidder
pub farmer-bytes-more : (bytes : BidderWithWords → List ℕ) (bidders : List Bidder) (words : List (List ℕ)) (k : ℕ) (bidder : Bidder)
    (list : List ℕ) (front before after : List ℕ) → length words ≡ length bidders → k < length bidders →
    bidder ≡ get_or bidders k bidder → list ≡ get_or words k list →
    before ≡ front ++ flat_map bytes (farmers_of (take k bidders) (take k words)) →
    after ≡ before ++ bytes (record { bidder = bidder; words = list }) →
    after ≡ front ++ flat_map bytes (farmers_of (take (k + 1) bidders) (take (k + 1) words))
farmer-bytes-more bytes bidders words k bidder list front before after same lt b w so_far one =
    let within : k < length words = omega (arith, same, lt) in
    let as_long : length (take k words) ≡ length (take k bidders) =
    omega (arith, length-take-le k words, length-take-le k bidders, within, lt) in
    let bs : take (k + 1) bidders ≡ take k bidders ++ bidder ∷ [] =
    take_more bidders k bidder lt ∙ ap (λ x. take k bidders ++ x ∷ []) (sym b) in
    let ws : take (k + 1) words ≡ take k words ++ list ∷ [] = take_more words k list within ∙ ap (λ x. take k words ++ x ∷ []) (sym w) in
    let more : farmers_of (take (k + 1) bidders) (take (k + 1) words)
    ≡ farmers_of (take k bidders) (take k words) ++ record { bidder = bidder; words = list } ∷ [] =
    (λ j. farmers_of (bs j) (ws j)) ∙ farmers-push (take k bidders) (take k words) bidder list as_long in
    one ∙ ap (λ l. l ++ bytes (record { bidder = bidder; words = list })) so_far
    ∙ flat_map_more bytes front (farmers_of (take k bidders) (take k words)) (record { bidder = bidder; words = list })
    ∙ ap (λ l. front ++ flat_map bytes l) (sym more)

-- bytes of items that a rule makes of others
pub flat-map-map : {A B : Type 0} (bytes : B → List ℕ) (f : A → B) (items : List A) →
    flat_map bytes (map f items) ≡ flat_map (λ x. bytes (f x)) items
flat-map-map bytes f [] = refl
flat-map-map bytes f (x ∷ xs) = ap (λ l. bytes (f x) ++ l) (flat-map-map bytes f xs)

-- what stands for a sender in a round at a server: nothing for the server itself
abbrev pub sent_bytes : (ℕ → List ℕ) → ℕ → ℕ → List ℕ
sent_bytes got me from = if sends_to from me then counted_bytes number_bytes (got from) else []

-- four texts among five, of which one is empty
first : (f a b c d : List ℕ) → ((((f ++ []) ++ a) ++ b) ++ c) ++ d ≡ f ++ (a ++ (b ++ (c ++ (d ++ []))))
first f a b c d = simp (append_assoc, append-nil)

second : (f a b c d : List ℕ) → ((((f ++ a) ++ []) ++ b) ++ c) ++ d ≡ f ++ (a ++ (b ++ (c ++ (d ++ []))))
second f a b c d = simp (append_assoc, append-nil)

third : (f a b c d : List ℕ) → ((((f ++ a) ++ b) ++ []) ++ c) ++ d ≡ f ++ (a ++ (b ++ (c ++ (d ++ []))))
third f a b c d = simp (append_assoc, append-nil)

fourth : (f a b c d : List ℕ) → ((((f ++ a) ++ b) ++ c) ++ []) ++ d ≡ f ++ (a ++ (b ++ (c ++ (d ++ []))))
fourth f a b c d = simp (append_assoc, append-nil)

fifth : (f a b c d : List ℕ) → ((((f ++ a) ++ b) ++ c) ++ d) ++ [] ≡ f ++ (a ++ (b ++ (c ++ (d ++ []))))
fifth f a b c d = simp (append_assoc, append-nil)

-- what stands for all five is what stands for the four peers
pub five-peers : (got : ℕ → List ℕ) (front : List ℕ) (me : ℕ) → IsServer me →
    ((((front ++ sent_bytes got me 1) ++ sent_bytes got me 2) ++ sent_bytes got me 3) ++ sent_bytes got me 4) ++ sent_bytes got me 5
    ≡ front ++ round_bytes (map got (peers me))
five-peers got front =
    let text : ℕ → List ℕ = λ j. counted_bytes number_bytes (got j) in
    by-server
    (λ me. ((((front ++ sent_bytes got me 1) ++ sent_bytes got me 2) ++ sent_bytes got me 3) ++ sent_bytes got me 4) ++ sent_bytes got me 5
    ≡ front ++ round_bytes (map got (peers me)))
    (first front (text 2) (text 3) (text 4) (text 5))
    (second front (text 1) (text 3) (text 4) (text 5))
    (third front (text 1) (text 2) (text 4) (text 5))
    (fourth front (text 1) (text 2) (text 3) (text 5))
    (fifth front (text 1) (text 2) (text 3) (text 4))

-- a server's shares of the quantities of a bidder
pub hidden-shares : (farmer : BidderWithWords) (prices s : ℕ) → length (quantities farmer.bidder.curve) ≡ 2 * prices →
    hidden (quantities farmer.bidder.curve) (accepted farmer.words) s ≡ each (share_for farmer s) (2 * prices)
hidden-shares farmer prices s many =
    let values = quantities farmer.bidder.curve in
    let drawn = accepted farmer.words in
    let share : ℕ → ℕ = λ k. point_of (slice_index values k) (slice_index drawn (2 * k)) (slice_index drawn (2 * k + 1)) s in
    each-same share (share_for farmer s) (length values)
    (λ k lt. let same : 2 * k ≡ 2 * k + 0 = omega arith in
    ap (λ n. point_of (slice_index values k) (slice_index drawn n) (slice_index drawn (2 * k + 1)) s) same)
    ∙ ap (each (share_for farmer s)) many
