use Rattle.disk_model.specs.Leaving.{weakened}
use Rattle.gate_file.specs.Commit.{CommitsToEither}
use Rattle.serve_hub.specs.Listening.{ShowsHeard}
use Rattle.serve_hub.proofs.Lasting.{commits_shown, either_shown, place_images}
use Rattle.serve_hub.proofs.laws.images_show_what_was_heard.Goals as goal

pub returns : goal.returns
returns g c =
    let d = g.D.Disk in
    let grows = c.sessions_hear_what_is_committed.ensures.grows in
    record {
      images = λ hub disk machine moment listener given shows is sound hearing image now.
          commits_shown grows machine sound moment listener given hearing image (place_images d hub.file hub.lost machine disk shows.place is image now);
      calls = λ old new committed more moment listener given first all hearing leaves.
          weakened d old new (CommitsToEither committed more) (ShowsHeard moment given) leaves
          (λ image either. either_shown grows moment committed listener given hearing first more image all either);
    }
