-- What a text goes on with.
use Rattle.std.proofs.Common.{◌≡◌, List, ℕ, length, drop, Option, Some, None, option_map, Bor, true, false, nat_eq, sym}
use Rattle.std.proofs.Common.{◌∙◌, ap, subst, if◌then◌else◌}
use Rattle.std.specs.List.{starts_with}
use Rattle.std.specs.Option.{MatchOption}
use Rattle.std.specs.Str.{IsCharBoundary}
use Rattle.std.specs.Str.Pattern.{FindsTextPrefix, StripsPrefix}
use Rattle.std.proofs.lemmas.Str.Pattern.{starts_text}
use Rattle.beet_job_envelopes.specs.SourceWords.{text_after}

-- a front that is stripped stands there, and one that is not does not
pub stripped : (front text : List ℕ) (result : Option (Bor (List ℕ))) →
    MatchOption result (FindsTextPrefix front text None) (λ rest. StripsPrefix (FindsTextPrefix front) text rest.now) →
    option_map (λ rest. rest.now) result ≡ text_after front text
stripped front text None none =
    let no : starts_with nat_eq text front ≡ false = sym (starts_text false front text none) in
    sym (ap (λ begins. if begins then Some (drop (length front) text) else None) no)
stripped front text (Some rest) (n, found, cut, long) =
    let boundary : IsCharBoundary text n = subst (IsCharBoundary text) (sym found.0) found.2 in
    let yes : starts_with nat_eq text front ≡ true = sym (starts_text true front text (n, found, boundary)) in
    ap Some (cut ∙ ap (λ k. drop k text) found.0) ∙ sym (ap (λ begins. if begins then Some (drop (length front) text) else None) yes)
