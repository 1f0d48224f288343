pub mod DifferenceFacts
