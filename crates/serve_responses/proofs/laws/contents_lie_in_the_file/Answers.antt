use Rattle.serve_responses.proofs.Contents.{all_content, link_content, list_content, stream_content}
use Rattle.serve_responses.proofs.laws.contents_lie_in_the_file.Goals as goal

pub returns-clause-all : goal.returns-clause-all
returns-clause-all c = all_content

pub returns-clause-link : goal.returns-clause-link
returns-clause-link c = link_content c.index_tells_places.ensures

pub returns-clause-stream : goal.returns-clause-stream
returns-clause-stream c = stream_content

pub returns-clause-list : goal.returns-clause-list
returns-clause-list c = list_content
