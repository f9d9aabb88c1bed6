-- The head of the player (RFC 9110).
use Rattle.std.specs.Prelude.{ℕ, Bool, List, ◌++◌, codes}
use Rattle.ogg_http.specs.Answer.{line}
use Rattle.serve_texts.specs.Response.{response}
use Rattle.serve_texts.specs.declared.page.TheConstants.{PLAYER}
use Rattle.serve_texts.specs.declared.player.TheConstants.{PLAYER_FRONT}

-- A page that has all of itself, and sounds and texts of this station: Content Security Policy, level 3. The hashes are
-- those of its style and of its script, of the algorithm SHA-256 (section 2.3.1).
abbrev pub policy : List ℕ
policy =
    codes "Content-Security-Policy: default-src 'none'; media-src 'self'; connect-src 'self'; "
    ++ codes "script-src 'sha256-vD+OMKzJhF7c1gGJCtVBJLqD7/WjEVanQJNuDp2NlOQ='; "
    ++ codes "style-src 'sha256-fnmlMuz5poEZAwqPet9hkI9DrOW/FqUb+EOtTaI/iDc='; "
    ++ codes "base-uri 'none'; form-action 'self'; frame-ancestors 'none'"

-- the fields before the length of the page. No cache keeps it (RFC 9111, section 5.2.2.5), and its type isn't guessed
-- (Fetch, section 3.6).
abbrev pub player_front : List ℕ
player_front =
    line (codes "HTTP/1.1 200 OK")
    ++ line (codes "Content-Type: text/html; charset=utf-8")
    ++ line (codes "Cache-Control: no-store")
    ++ line (codes "X-Content-Type-Options: nosniff")
    ++ line policy
    ++ line (codes "Connection: close")

-- the whole response
abbrev pub player_response : Bool → List ℕ
player_response head = response PLAYER_FRONT.now PLAYER.now head
