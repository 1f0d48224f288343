pub mod FiveLockstep
