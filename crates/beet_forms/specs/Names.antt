-- Names: 1 to 200 bytes of UTF-8 text with no control byte.
use Rattle.std.specs.Prelude.{ℕ, Bool, ◌==◌, ◌&&◌, not, nat_le, List, length}
use Rattle.std.specs.List.{list_all}
use Rattle.std.specs.Str.{is_utf8}
use Rattle.beet_forms.specs.declared.names.TheConstants.{LONGEST_NAME}

-- a byte that a name may have: not below the space, and not the delete byte
abbrev pub is_plain : ℕ → Bool
is_plain byte = nat_le 32 byte && not (byte == 127)

-- whether the bytes are a name
abbrev pub is_name_of : List ℕ → Bool
is_name_of bytes =
    nat_le 1 (length bytes) && nat_le (length bytes) LONGEST_NAME && list_all is_plain bytes && is_utf8 bytes
