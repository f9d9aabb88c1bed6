use Rattle.line_packets.proofs.Reading.{goes_on}
use Rattle.line_packets.proofs.pages.inputs_go_on.Goals as goal

pub returns : goal.returns
returns c = λ media run input piece pages taken stood. record {
  line = stood.line;
  front_is = stood.front_is;
  has_read = goes_on input stood.line piece taken stood.has_read;
  has_put = stood.has_put;
}
