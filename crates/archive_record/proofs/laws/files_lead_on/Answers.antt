use Rattle.std.proofs.Common.{[]}
use Rattle.archive_history.specs.History.{point}
use Rattle.archive_record.proofs.laws.files_lead_on.Goals as goal

pub returns : goal.returns
returns g c =
    let is_one = c.calls_are_events.ensures in
    let lead = c.calls_lead_on.ensures in
    let on = c.events_lead_on.ensures in record {
      nothing = λ a folder disks. on.nothing [] a (point folder disks);
      both = λ a b d old mid new disks between after. on.both [] a b d (point old disks) (point mid between) (point new after);
      stands = λ a b old new disks after. on.stands [] a b (point old disks) (point new after) c.images_show_one_recording.ensures.new;
      step = lead.recording [];
      ending = lead.ending [];
      setting_aside = λ a file folder disks. lead.setting_aside [] a file (point folder disks);
      resuming = λ a b folder disks. lead.resuming [] a b (point folder disks);
      recorded_names = is_one.recorded;
      ended_names = is_one.ended;
      aside_names = is_one.set_aside;
      resumed_names = is_one.resumed;
      only = is_one.ending;
      empty = c.images_show_one_recording.ensures.new;
    }
