-- What is answered to a source before its body.
use Rattle.std.specs.Prelude.{ℕ, Bool, true, false, List, [], if◌then◌else◌}
use Rattle.serve_sources.specs.declared.reply.Reply.{Reply}
use Rattle.serve_sources.specs.declared.reply.Reply.TheVariants.{GoOn, Accepted, Silent}
use Rattle.serve_sources.specs.Answers.{go_on_text, accepted_text}

-- HTTP/1.0 has no expectations (RFC 9110, section 10.1.1). A source waits for its answer in HTTP/1.0 alone.
abbrev pub reply_to : Bool → Bool → Bool → Reply
reply_to is_source http11 expects =
    if http11 then (if expects then GoOn else Silent) else (if is_source then Accepted else Silent)

abbrev pub reply_text : Reply → List ℕ
reply_text GoOn = go_on_text
reply_text Accepted = accepted_text
reply_text Silent = []

-- the source has its last answer before its body
abbrev pub is_final : Reply → Bool
is_final Accepted = true
is_final GoOn = false
is_final Silent = false
