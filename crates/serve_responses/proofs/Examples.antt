-- Responses written out, to be compared with the definitions by evaluation.
use Rattle.std.proofs.Common.{◌≡◌, ℕ, true, Some, None, List, [], ◌∷◌, codes, refl}
use Rattle.std.specs.Fmt.{digits}
use Rattle.ogg_http.specs.declared.head.Verb.TheVariants.{Get, Head, Other}
use Rattle.ogg_http.specs.declared.range.Ranged.TheVariants.{Part}
use Rattle.serve_responses.specs.Response.{Asked, response, ranged}

-- a GET of this target over HTTP/1.1
abbrev get : List ℕ → Asked
get target = record { verb = Get; target = target; http11 = true; hosts = 1; range = None }

-- ---- over a file of no links
-- a range of no bytes is ignored
all : response [] (Some (record (get (codes "/all")) { range = Some (codes "bytes=0-") }))
    ≡ codes "HTTP/1.1 200 OK\r\nContent-Type: application/ogg\r\nContent-Length: 0\r\nAccept-Ranges: bytes\r\nConnection: close\r\n\r\n"
unfolding digits
all = refl

list : response [] (Some (get (codes "/")))
    ≡ codes "HTTP/1.1 200 OK\r\nContent-Type: text/plain\r\nContent-Length: 12\r\nConnection: close\r\n\r\ncommitted 0\n"
unfolding digits
list = refl

-- its head alone
head_of_list : response [] (Some (record (get (codes "/")) { verb = Head }))
    ≡ codes "HTTP/1.1 200 OK\r\nContent-Type: text/plain\r\nContent-Length: 12\r\nConnection: close\r\n\r\n"
unfolding digits
head_of_list = refl

no_such_link : response [] (Some (get (codes "/link/9")))
    ≡ codes "HTTP/1.1 404 Not Found\r\nContent-Length: 0\r\nConnection: close\r\n\r\n"
unfolding digits
no_such_link = refl

-- whatever the target names
post_is_not_allowed : response [] (Some (record (get (codes "/link/9")) { verb = Other }))
    ≡ codes "HTTP/1.1 405 Method Not Allowed\r\nContent-Length: 0\r\nAllow: GET, HEAD\r\nConnection: close\r\n\r\n"
unfolding digits
post_is_not_allowed = refl

-- whatever the method is
without_host : response [] (Some (record (get (codes "/")) { hosts = 0; verb = Other }))
    ≡ codes "HTTP/1.1 400 Bad Request\r\nContent-Length: 0\r\nConnection: close\r\n\r\n"
unfolding digits
without_host = refl

no_request : response [] None ≡ codes "HTTP/1.1 400 Bad Request\r\nContent-Length: 0\r\nConnection: close\r\n\r\n"
no_request = refl

-- ---- parts of five bytes
-- both ends of a part belong to it
part_of_five : (ranged (10 ∷ 11 ∷ 12 ∷ 13 ∷ 14 ∷ []) (Part 1 3)).content ≡ 11 ∷ 12 ∷ 13 ∷ []
part_of_five = refl
