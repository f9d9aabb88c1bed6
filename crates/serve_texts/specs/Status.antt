-- The numbers of a station, in the text format of Prometheus, version 0.0.4 ("Exposition formats", "Text-based format").
-- Ours: which numbers there are, and what they are called.
use Rattle.std.specs.Prelude.{ℕ, ◌+◌, ◌/◌, ◌%◌, Bool, true, false, if◌then◌else◌, List, [], ◌∷◌, ◌++◌, codes}
use Rattle.std.specs.List.{flat_map}
use Rattle.std.specs.Fmt.{decimal}
use Rattle.ogg_http.specs.Answer.{line}
use Rattle.serve_texts.specs.Response.{response}
use Rattle.serve_texts.specs.declared.numbers.Numbers.{Numbers}
use Rattle.serve_texts.specs.declared.sample.Sample.{Sample}
use Rattle.serve_texts.specs.declared.sample.Sample.TheVariants.{CommittedBytes, Links, Packets, Commits, CommitSeconds, Reopenings, Listeners, Sessions, Sources, Others, ConnectionsRefused, SourcesAccepted, SourcesRefused, SentBytes, Junk, Gaps, Restarts, Strangers, Repeated, Unfinished, TooLong, Misshapen, Full, UptimeSeconds, OnAir, OnAirSeconds}
use Rattle.serve_texts.specs.declared.value.Value.{Value}
use Rattle.serve_texts.specs.declared.value.Value.TheVariants.{Whole, Thousandths}
use Rattle.serve_texts.specs.declared.status.TheConstants.{STATUS_FRONT}

-- what a metric is called, whether it only grows, and what it counts
pub record Metric : Type 0 where
  pub name : List ℕ
  pub kind : List ℕ
  pub help : List ℕ

-- a number that only grows while the station runs
abbrev pub counter : List ℕ → List ℕ → Metric
counter name help = record { name = codes "kudzuturret_" ++ name; kind = codes "counter"; help = help }

-- a number that may go up and down
abbrev pub gauge : List ℕ → List ℕ → Metric
gauge name help = record { name = codes "kudzuturret_" ++ name; kind = codes "gauge"; help = help }

-- two metrics have several samples
abbrev pub open_connections : Metric
open_connections = gauge (codes "connections") (codes "Connections that are open, by what they are.")

abbrev pub mends : Metric
mends = counter (codes "mends_total") (codes "Mends of what sources sent, by their kind.")

-- the metric of each sample
abbrev pub metric_of : Sample → Metric
metric_of CommittedBytes = gauge (codes "committed_bytes") (codes "Bytes of the file that are committed.")
metric_of Links = gauge (codes "links") (codes "Links of the file.")
metric_of Packets = counter (codes "packets_total") (codes "Packets that were recorded in this run.")
metric_of Commits = counter (codes "commits_total") (codes "Commits of this run.")
metric_of CommitSeconds = counter (codes "commit_seconds_total") (codes "Seconds that the commits of this run took.")
metric_of Reopenings = counter (codes "reopenings_total") (codes "How often the file was opened again after a fault.")
metric_of Listeners = open_connections
metric_of Sessions = open_connections
metric_of Sources = open_connections
metric_of Others = open_connections
metric_of ConnectionsRefused = counter (codes "connections_refused_total") (codes "Connections that were refused, since there were too many.")
metric_of SourcesAccepted = counter (codes "sources_accepted_total") (codes "Sources that were accepted.")
metric_of SourcesRefused = counter (codes "sources_refused_total") (codes "Sources that were refused.")
metric_of SentBytes = counter (codes "sent_bytes_total") (codes "Bytes that were sent on all connections.")
metric_of Junk = mends
metric_of Gaps = mends
metric_of Restarts = mends
metric_of Strangers = mends
metric_of Repeated = mends
metric_of Unfinished = mends
metric_of TooLong = mends
metric_of Misshapen = mends
metric_of Full = mends
metric_of UptimeSeconds = gauge (codes "uptime_seconds") (codes "Seconds since the station began.")
metric_of OnAir = gauge (codes "on_air") (codes "1 if a source is on the air, and otherwise 0.")
metric_of OnAirSeconds = gauge (codes "on_air_seconds") (codes "Seconds since the source on the air began, or 0 if there is none.")

-- the label that tells samples of one metric apart
abbrev pub kind_label : List ℕ → List ℕ
kind_label kind = codes "{kind=\"" ++ (kind ++ codes "\"}")

abbrev pub label_of : Sample → List ℕ
label_of Listeners = kind_label (codes "listener")
label_of Sessions = kind_label (codes "session")
label_of Sources = kind_label (codes "source")
label_of Others = kind_label (codes "other")
label_of Junk = kind_label (codes "Junk")
label_of Gaps = kind_label (codes "Gap")
label_of Restarts = kind_label (codes "Restart")
label_of Strangers = kind_label (codes "Stranger")
label_of Repeated = kind_label (codes "Repeated")
label_of Unfinished = kind_label (codes "Unfinished")
label_of TooLong = kind_label (codes "TooLong")
label_of Misshapen = kind_label (codes "Misshapen")
label_of Full = kind_label (codes "Full")
label_of _ = []

-- the first sample of each metric comes after what is said of the metric
abbrev pub is_first : Sample → Bool
is_first Sessions = false
is_first Sources = false
is_first Others = false
is_first Gaps = false
is_first Restarts = false
is_first Strangers = false
is_first Repeated = false
is_first Unfinished = false
is_first TooLong = false
is_first Misshapen = false
is_first Full = false
is_first _ = true

abbrev pub help_line : Metric → List ℕ
help_line metric = codes "# HELP " ++ (metric.name ++ (codes " " ++ (metric.help ++ codes "\n")))

abbrev pub type_line : Metric → List ℕ
type_line metric = codes "# TYPE " ++ (metric.name ++ (codes " " ++ (metric.kind ++ codes "\n")))

-- all of a sample before its value
abbrev pub front_of : Sample → List ℕ
front_of sample =
    (if is_first sample then help_line (metric_of sample) ++ type_line (metric_of sample) else [])
    ++ ((metric_of sample).name ++ (label_of sample ++ codes " "))

-- three digits, with zeros at the front
abbrev pub three_digits : ℕ → List ℕ
three_digits n = (48 + n / 100 % 10) ∷ (48 + n / 10 % 10) ∷ (48 + n % 10) ∷ []

-- a value and the end of its line; thousandths are written as a fraction of three digits
abbrev pub value_line : Value → List ℕ
value_line (Whole n) = decimal n ++ codes "\n"
value_line (Thousandths n) = decimal (n / 1000) ++ (codes "." ++ (three_digits n ++ codes "\n"))

-- the value of each sample
abbrev pub value_of : Sample → Numbers → Value
value_of CommittedBytes numbers = Whole numbers.committed_bytes
value_of Links numbers = Whole numbers.links
value_of Packets numbers = Whole numbers.packets
value_of Commits numbers = Whole numbers.commits
value_of CommitSeconds numbers = Thousandths numbers.commit_milliseconds
value_of Reopenings numbers = Whole numbers.reopenings
value_of Listeners numbers = Whole numbers.listeners
value_of Sessions numbers = Whole numbers.sessions
value_of Sources numbers = Whole numbers.sources
value_of Others numbers = Whole numbers.others
value_of ConnectionsRefused numbers = Whole numbers.connections_refused
value_of SourcesAccepted numbers = Whole numbers.sources_accepted
value_of SourcesRefused numbers = Whole numbers.sources_refused
value_of SentBytes numbers = Whole numbers.sent_bytes
value_of Junk numbers = Whole numbers.mends.junk
value_of Gaps numbers = Whole numbers.mends.gaps
value_of Restarts numbers = Whole numbers.mends.restarts
value_of Strangers numbers = Whole numbers.mends.strangers
value_of Repeated numbers = Whole numbers.mends.repeated
value_of Unfinished numbers = Whole numbers.mends.unfinished
value_of TooLong numbers = Whole numbers.mends.too_long
value_of Misshapen numbers = Whole numbers.mends.misshapen
value_of Full numbers = Whole numbers.mends.full
value_of UptimeSeconds numbers = Whole numbers.uptime_seconds
value_of OnAir numbers = Whole (if numbers.on_air then 1 else 0)
value_of OnAirSeconds numbers = Whole numbers.on_air_seconds

-- the samples in their order
abbrev pub samples : List Sample
samples =
    CommittedBytes ∷ Links ∷ Packets ∷ Commits ∷ CommitSeconds ∷ Reopenings
    ∷ Listeners ∷ Sessions ∷ Sources ∷ Others ∷ ConnectionsRefused ∷ SourcesAccepted
    ∷ SourcesRefused ∷ SentBytes ∷ Junk ∷ Gaps ∷ Restarts ∷ Strangers
    ∷ Repeated ∷ Unfinished ∷ TooLong ∷ Misshapen ∷ Full ∷ UptimeSeconds
    ∷ OnAir ∷ OnAirSeconds ∷ []

abbrev pub sample_text : Numbers → Sample → List ℕ
sample_text numbers sample = front_of sample ++ value_line (value_of sample numbers)

abbrev pub status_text : Numbers → List ℕ
status_text numbers = flat_map (sample_text numbers) samples

-- the first lines of the response; no cache keeps it (RFC 9111, section 5.2.2.5)
abbrev pub status_front : List ℕ
status_front =
    line (codes "HTTP/1.1 200 OK")
    ++ line (codes "Content-Type: text/plain; version=0.0.4; charset=utf-8")
    ++ line (codes "Cache-Control: no-store")
    ++ line (codes "Connection: close")

-- the whole response
abbrev pub status_response : Numbers → Bool → List ℕ
status_response numbers head = response STATUS_FRONT.now (status_text numbers) head
