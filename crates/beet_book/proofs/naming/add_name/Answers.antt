use Rattle.std.proofs.Common.{◌≡◌, ◌||◌, ◌∙◌, ap, Bool, true, false, refl, rules}
use Rattle.std.specs.BTreeSet.{contains_text}
use Rattle.std.specs.Prelude.{bytes_eq, string_bytes, if◌then◌else◌}
use Rattle.std.proofs.lemmas.Map.Text.{btree_set_updates_text}
use Rattle.beet_book.proofs.naming.add_name.Goals as goal

either : (a b : Bool) → (if a then true else b) ≡ (a || b)
either true b = refl
either false b = refl

pub returns-clause-seen : goal.returns-clause-seen
returns-clause-seen c = λ text.
    let bytes : string_bytes c.in_ok-name.name ≡ c.args.name.now = search rules in
    let after = btree_set_updates_text (string_bytes c.in_ok-name.name) c.args.seen.now c.insert.new.self true
    c.in-Ok.ensures.updates text in
    after ∙ either (bytes_eq (string_bytes c.in_ok-name.name) text) (contains_text c.args.seen.now text)
    ∙ ap (λ b. bytes_eq b text || contains_text c.args.seen.now text) bytes
