-- A response is as long as its head says.
use Rattle.std.proofs.Common.{ℕ, ◌+◌, ◌-◌, Option, Some, None, List, [], length, drop, refl, arith, length-drop, length-take-le, option_and_then}
use Rattle.std.proofs.lemmas.Bool.{cond_both}
use Rattle.ogg_page.specs.Page.{Page}
use Rattle.ogg_http.specs.Range.{range_of, LiesIn}
use Rattle.ogg_http.specs.Target.{resource_of}
use Rattle.ogg_http.specs.declared.range.Ranged.{Ranged}
use Rattle.ogg_http.specs.declared.range.Ranged.TheVariants.{Whole, Part, Unsatisfiable}
use Rattle.ogg_http.specs.declared.head.Verb.{Verb}
use Rattle.ogg_http.specs.declared.head.Verb.TheVariants.{Get, Head, Other}
use Rattle.serve_responses.specs.Response.{Asked, Content, Text, Pages, ranged, asked_range, get_response, response_by, response_of, lacks_host, content_of}
use Rattle.serve_responses.specs.Framing.{IsFramed, IsFramedFor}

ranged_framed : (bytes : List ℕ) (part : Ranged) → LiesIn (length bytes) part → IsFramed Get (ranged bytes part)
ranged_framed bytes Whole lies = record { fits = tt; follows = refl }
ranged_framed bytes Unsatisfiable lies = record { fits = tt; follows = refl }
ranged_framed bytes (Part first last) lies = record {
  fits = lies;
  follows =
      let left = length-drop first bytes in
      let take_len = length-take-le (last + 1 - first) (drop first bytes) (omega (arith, left, lies.0, lies.1)) in
      omega (arith, take_len, lies.0);
}

module _ (ranges_inside : (text : List ℕ) (len : ℕ) → LiesIn len (range_of text len)) where
  range_asked : (range : Option (List ℕ)) (len : ℕ) → LiesIn len (asked_range range len)
  range_asked None len = tt
  range_asked (Some text) len = ranges_inside text len

  get_framed : (range : Option (List ℕ)) (content : Option Content) → IsFramed Get (get_response range content)
  get_framed range None = record { fits = tt; follows = refl }
  get_framed range (Some (Text bytes)) = record { fits = tt; follows = refl }
  get_framed range (Some (Pages bytes)) = ranged_framed bytes (asked_range range (length bytes)) (range_asked range (length bytes))

  by_framed : (verb : Verb) (range : Option (List ℕ)) (content : Option Content) → IsFramed verb (response_by verb range content)
  by_framed Get range content = get_framed range content
  by_framed Head range content = record { fits = (get_framed None content).fits; follows = refl }
  by_framed Other range content = record { fits = tt; follows = refl }

  bad_framed : (verb : Verb) → IsFramed verb (response_of [] None)
  bad_framed Get = record { fits = tt; follows = refl }
  bad_framed Head = record { fits = tt; follows = refl }
  bad_framed Other = record { fits = tt; follows = refl }

  pub framed : (links : List (List Page)) (asked : Option Asked) → IsFramedFor asked (response_of links asked)
  framed links None = record { fits = tt; follows = refl }
  framed links (Some asked) =
      cond_both (lacks_host asked) (response_of [] None) (response_by asked.verb asked.range (option_and_then (content_of links) (resource_of asked.target)))
      (IsFramed asked.verb) (λ e. bad_framed asked.verb) (λ e. by_framed asked.verb asked.range (option_and_then (content_of links) (resource_of asked.target)))
