-- What a bundle reads as once some of its parts are read.
use Rattle.std.proofs.Common.{◌≡◌, ℕ, List, Ok, refl}
use Rattle.beet_words.specs.declared.bundle.TheConstants.{MOST_BIDDERS, BAD_MAGIC, TRAILING}
use Rattle.beet_words.specs.Fields.{◌>>=◌, number_at, times, after_magic, ended}
use Rattle.beet_words.specs.Bundles.{magic, up_to, list_at, server_at, bundle_of}

-- once the servers are read
pub after_servers : (file : List ℕ) (start count a b c d : ℕ) (one two three : List ℕ × List ℕ) →
    after_magic file magic BAD_MAGIC ≡ Ok start →
    number_at file (up_to MOST_BIDDERS) start ≡ Ok (count, a) →
    server_at file a ≡ Ok (one, b) →
    server_at file b ≡ Ok (two, c) →
    server_at file c ≡ Ok (three, d) →
    bundle_of file
    ≡ (times count (list_at file) d >>= λ bidders. ended file TRAILING bidders.1 >>= λ done. Ok (record {
      masks = record { one = one.0; two = two.0; three = three.0 };
      coefficients = record { one = one.1; two = two.1; three = three.1 };
      bidders = bidders.0;
    }))
unfolding bundle_of
after_servers file start count a b c d one two three e f g h i = rw (e, f, g, h, i) refl
