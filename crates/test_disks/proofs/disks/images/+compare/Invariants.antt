use Rattle.test_disks.proofs.disks.images.+compare.Given as goal

abbrev pub decreases-compare : goal.decreases-compare
decreases-compare l = l.more
