-- What resources have lies in the file.
use Rattle.std.proofs.Common.{◌≡◌, ℕ, Option, Some, None, List, [], length, drop, take, refl, sym, ◌∙◌, ap, option_map, option_and_then, slice_get, true, inl, inr}
use Rattle.std.proofs.lemmas.Bool.{cases_Bool, cond-true, cond-false}
use Rattle.ogg_page.specs.Page.{Page, bytes_of_pages}
use Rattle.link_chain.specs.Links.{AreLinks, has_stream, pages_with}
use Rattle.link_index.specs.Index.{LinkEntry, index_of}
use Rattle.link_index.specs.Listing.{listing}
use Rattle.ogg_http.specs.declared.target.Resource.TheVariants.{List as ListingOf, All as AllOf, Link as LinkOf, Stream as StreamOf}
use Rattle.serve_responses.specs.Response.{Content, Text, Pages, content_of, stream_in_link}

pub all_content : (committed : List ℕ) (links : List (List Page)) → AreLinks committed links → content_of links AllOf ≡ Some (Pages committed)
all_content committed links are = ap (λ (b : List ℕ). Some (Pages b)) (sym are.spelled)

pub list_content : (committed : List ℕ) (links : List (List Page)) → AreLinks committed links
    → content_of links ListingOf ≡ Some (Text (listing (length committed) (index_of links)))
list_content committed links are = ap (λ (b : List ℕ). Some (Text (listing (length b) (index_of links)))) (sym are.spelled)

value_in : Option Content → Content
value_in None = Text []
value_in (Some content) = content

same_content : (a b : Content) → Some a ≡ Some b → a ≡ b
unfolding value_in
same_content a b e = ap value_in e

-- a link's stream, if there is one
abbrev IsStreamOf : List (List Page) → ℕ → ℕ → Content → Type 0
IsStreamOf links number serial content =
    (link : List Page) × (slice_get links number ≡ Some link) × (has_stream link serial ≡ true)
    × (content ≡ Pages (bytes_of_pages (pages_with serial link)))

pub stream_content : (committed : List ℕ) (links : List (List Page)) (number serial : ℕ) (content : Content)
    → AreLinks committed links → content_of links (StreamOf number serial) ≡ Some content → IsStreamOf links number serial content
stream_content committed links number serial content are found = by (slice_get links number) refl found
  where
    by : (o : Option (List Page)) → slice_get links number ≡ o → option_and_then (stream_in_link serial) o ≡ Some content
        → IsStreamOf links number serial content
    by None e is = cc
    by (Some link) e is =
        let pages : Content = Pages (bytes_of_pages (pages_with serial link)) in
        elim (cases_Bool (has_stream link serial)) [
          | inl has ↦ (link, e, has, same_content content pages (sym is ∙ cond-true (has_stream link serial) (Some pages) None has))
          | inr lacks ↦ let none : None ≡ Some content = sym (cond-false (has_stream link serial) (Some pages) None lacks) ∙ is in cc
        ]

-- the place of a link, by the index
abbrev LiesAt : List ℕ → List (List Page) → ℕ → List ℕ → Type 0
LiesAt committed links number bytes =
    (entry : LinkEntry) × (slice_get (index_of links) number ≡ Some entry) × (take entry.info.length (drop entry.info.start committed) ≡ bytes)

module _ (tells : (bytes : List ℕ) (links : List (List Page)) (number : ℕ) (link : List Page) → AreLinks bytes links
    → slice_get links number ≡ Some link → LiesAt bytes links number (bytes_of_pages link)) where
  pub link_content : (committed : List ℕ) (links : List (List Page)) (number : ℕ) (content : Content)
      → AreLinks committed links → content_of links (LinkOf number) ≡ Some content
      → (entry : LinkEntry) × (slice_get (index_of links) number ≡ Some entry)
      × (content ≡ Pages (take entry.info.length (drop entry.info.start committed)))
  link_content committed links number content are found = by (slice_get links number) refl found
    where
      by : (o : Option (List Page)) → slice_get links number ≡ o → option_map (λ link. Pages (bytes_of_pages link)) o ≡ Some content
          → (entry : LinkEntry) × (slice_get (index_of links) number ≡ Some entry)
          × (content ≡ Pages (take entry.info.length (drop entry.info.start committed)))
      by None e is = cc
      by (Some link) e is =
          let at = tells committed links number link are e in
          (at.0, at.1, sym (same_content (Pages (bytes_of_pages link)) content is) ∙ ap (λ (b : List ℕ). Pages b) (sym at.2))
