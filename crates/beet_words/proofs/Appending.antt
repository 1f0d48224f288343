-- Items whose bytes are appended one after another, as a loop does.
use Rattle.std.proofs.Common.{◌≡◌, ℕ, ◌+◌, ◌<◌, List, [], ◌∷◌, ◌++◌, length, get_or, take, sym, ap, ◌∙◌, append_assoc}
use Rattle.std.specs.List.{flat_map}
use Rattle.std.proofs.lemmas.Grind.{flat_map-append}
use Rattle.std.proofs.lemmas.List.{append-nil, take_more}

-- one more item is appended
pub bytes-more : {X : Type 0} (bytes : X → List ℕ) (items : List X) (i : ℕ) (item : X) (front before after : List ℕ) →
    i < length items →
    before ≡ front ++ flat_map bytes (take i items) →
    after ≡ before ++ bytes (get_or items i item) →
    after ≡ front ++ flat_map bytes (take (i + 1) items)
bytes-more bytes items i item front before after lt so_far one =
    let last = bytes (get_or items i item) in
    let more : flat_map bytes (take (i + 1) items) ≡ flat_map bytes (take i items) ++ last =
    ap (flat_map bytes) (take_more items i item lt) ∙ flat_map-append bytes (take i items) (get_or items i item ∷ [])
    ∙ ap (λ end. flat_map bytes (take i items) ++ end) (append-nil last) in
    one ∙ ap (λ start. start ++ last) so_far ∙ append_assoc front (flat_map bytes (take i items)) last ∙ sym (ap (λ end. front ++ end) more)
