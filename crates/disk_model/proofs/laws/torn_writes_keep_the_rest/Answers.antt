use Rattle.disk_model.specs.Torn.{torn_image, torn_front, torn_back}
use Rattle.disk_model.proofs.laws.torn_writes_keep_the_rest.Goals as goal

pub returns-clause-torn : goal.returns-clause-torn
returns-clause-torn c = λ disk image at n. torn_image disk disk.contents image at n

pub returns-clause-front : goal.returns-clause-front
returns-clause-front c = torn_front

pub returns-clause-back : goal.returns-clause-back
returns-clause-back c = torn_back
