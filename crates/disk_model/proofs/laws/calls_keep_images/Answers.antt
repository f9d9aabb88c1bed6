use Rattle.std.proofs.Common.{length, refl}
use Rattle.disk_model.specs.Image.{after_write}
use Rattle.disk_model.proofs.Images.{image_written, image_cut}
use Rattle.disk_model.proofs.laws.calls_keep_images.Goals as goal

pub returns-clause-write : goal.returns-clause-write
returns-clause-write c = λ disk image bytes at is room. image_written disk (after_write at (length bytes) disk) image bytes at is room refl refl refl refl

pub returns-clause-cut : goal.returns-clause-cut
returns-clause-cut c = image_cut
