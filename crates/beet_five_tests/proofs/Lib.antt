pub mod AllFresh
