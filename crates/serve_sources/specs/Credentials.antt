-- The credentials of a source: Basic (RFC 7617), whose user name may be any.
use Rattle.std.specs.Prelude.{◌≡◌, ℕ, ◌+◌, ◌∷◌, ◌++◌, replicate, Bool, false, not, List, [], length, take, drop, map, nat_le, ◌&&◌, ◌==◌, if◌then◌else◌, Option, Some, None, Result, Ok, Err, position, codes}
use Rattle.std.specs.Char.{to_ascii_lowercase}
use Rattle.std.specs.Str.{byte, bytes_eq}
use Rattle.base64.specs.declared.decode.DecodeError.{DecodeError}
use Rattle.base64.specs.Engines.{standard}
use Rattle.base64.specs.GeneralPurpose.{decode_of, encode_of}

-- the text from this place on
abbrev pub text_from : Option ℕ → List ℕ → List ℕ
text_from None text = []
text_from (Some at) text = drop at text

-- the text after its leading spaces
abbrev pub without_spaces : List ℕ → List ℕ
without_spaces text = text_from (position (λ b. not (b == byte " ")) text) text

-- credentials = "Basic" 1*SP token68 (section 2); the scheme's case doesn't count
abbrev pub token_of : List ℕ → Option (List ℕ)
token_of value =
    if nat_le 6 (length value) && bytes_eq (map to_ascii_lowercase (take 6 value)) (codes "basic ")
    then Some (without_spaces (drop 6 value)) else None

-- the password is what stands after the first colon: a user name has none (section 2)
abbrev pub password_behind : Option ℕ → List ℕ → List ℕ → Bool
password_behind None pair password = false
password_behind (Some colon) pair password = bytes_eq (drop (colon + 1) pair) password

-- a user name, a colon and this password
abbrev pub has_password : List ℕ → List ℕ → Bool
has_password pair password = password_behind (position (λ b. b == byte ":") pair) pair password

-- the token is the Base64 of such a text (RFC 4648, section 4)
abbrev pub decodes_to : Result (List ℕ) DecodeError → List ℕ → Bool
decodes_to (Ok pair) password = has_password pair password
decodes_to (Err wrong) password = false

abbrev pub token_authorizes : Option (List ℕ) → List ℕ → Bool
token_authorizes None password = false
token_authorizes (Some token) password = decodes_to (decode_of standard token) password

-- the value of an Authorization field gives this password
abbrev pub value_authorizes : List ℕ → List ℕ → Bool
value_authorizes value password = token_authorizes (token_of value) password

-- the same of the one field's value, if there is one
abbrev pub authorizes : Option (List ℕ) → List ℕ → Bool
authorizes None password = false
authorizes (Some value) password = value_authorizes value password

-- RFC 7617, section 2: the scheme, a space or more, and the Base64 of a user name without a colon, a colon and the
-- password
pub record IsBasic (user password value : List ℕ) : Type 0 where
  pub scheme : List ℕ
  pub spaces : ℕ
  pub basic : map to_ascii_lowercase scheme ≡ codes "basic"
  pub text : value ≡ scheme ++ byte " " ∷ (replicate spaces (byte " ") ++ encode_of standard (user ++ byte ":" ∷ password))
  pub no_colon : position (λ b. b == byte ":") user ≡ None
